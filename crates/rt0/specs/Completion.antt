-- Held and not held: which roles are open, completions, and the three words YES, NO and UNSURE.
-- A role is open by an arbitrary test. By a bundle's marks it is open where its entity's shelf is absent.
use Rattle.std.specs.Prelude.{ℕ, zero, suc, ◌≡◌, Bool, true, false, ◌&&◌, ◌||◌, List, ◌++◌}
use Rattle.rt0.specs.Credential.{Role, ◌·◌, Credential, Valid, IsEntity, ValidRole, head, ◌∈◌, entity_of}
use Rattle.rt0.specs.Membership.{Assignment, Closed, Member}

-- a shelf is present, so that all credentials its entity issued are held, or it is absent
pub data Shelf : Type 0 where
  Present : Shelf
  Absent : Shelf

abbrev pub is_absent : Shelf → Bool
is_absent Present = false
is_absent Absent = true

-- which roles further credentials may define
abbrev pub Open : Type 0
Open = Role → Bool

-- a role is open where its entity's shelf is absent
abbrev pub open_by : (ℕ → Shelf) → Open
open_by shelf ρ = is_absent (shelf (entity_of ρ))

-- some shelf of entities 1 to n is absent
unfoldable pub some_absent : (ℕ → Shelf) → ℕ → Bool
some_absent shelf zero = false
some_absent shelf (suc n) = is_absent (shelf (suc n)) || some_absent shelf n

-- with names whose credentials any shelf may keep: A.r is open where A's shelf is absent, or where r is such a name and some shelf at all is absent
abbrev pub open_with : (ℕ → Bool) → (ℕ → Shelf) → ℕ → Open
open_with loose shelf E (A · r) = is_absent (shelf A) || (loose r && some_absent shelf E)

-- a list, of any length, of valid credentials whose heads are open
abbrev pub Completion : ℕ → ℕ → Open → List Credential → Type 0
Completion E R is_open ks = (k : Credential) → k ∈ ks → Valid E R k × (is_open (head k) ≡ true)

-- member with no completion added
abbrev pub Yes : List Credential → Role → ℕ → Type 0
Yes cs ρ D = Member cs ρ D

-- member under some completion added to those held
abbrev pub Completable : ℕ → ℕ → Open → List Credential → Role → ℕ → Type 0
Completable E R is_open cs ρ D = (ks : List Credential) × Completion E R is_open ks × Member (cs ++ ks) ρ D

-- member under no completion
abbrev pub No : ℕ → ℕ → Open → List Credential → Role → ℕ → Type 0
No E R is_open cs ρ D = Completable E R is_open cs ρ D → ⊥

-- neither
abbrev pub Unsure : ℕ → ℕ → Open → List Credential → Role → ℕ → Type 0
Unsure E R is_open cs ρ D = (Yes cs ρ D → ⊥) × (No E R is_open cs ρ D → ⊥)

-- the three words
pub data Verdict : Type 0 where
  YES : Verdict
  NO : Verdict
  UNSURE : Verdict

-- when a word is the answer to "is D in ρ?"
abbrev pub Answers : ℕ → ℕ → Open → List Credential → Role → ℕ → Verdict → Type 0
Answers E R is_open cs ρ D YES = Yes cs ρ D
Answers E R is_open cs ρ D NO = No E R is_open cs ρ D
Answers E R is_open cs ρ D UNSURE = Unsure E R is_open cs ρ D

-- every open role holds everyone
abbrev pub HoldsEveryone : ℕ → ℕ → Open → Assignment → Type 0
HoldsEveryone E R is_open P = (ρ : Role) → ValidRole E R ρ → is_open ρ ≡ true → (D : ℕ) → IsEntity E D → P ρ D

-- Q is the least assignment closed under the held credentials in which every open role holds everyone
pub record IsPossible (E R : ℕ) (is_open : Open) (cs : List Credential) (Q : Assignment) : Type 1 where
  pub closed : Closed cs Q
  pub everyone : HoldsEveryone E R is_open Q
  pub least : (P : Assignment) → Closed cs P → HoldsEveryone E R is_open P → (ρ : Role) (D : ℕ) → Q ρ D → P ρ D
