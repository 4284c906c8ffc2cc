-- Membership by RT0's own definition: the least assignment of members to roles that is closed under all credentials.
use Rattle.std.specs.Prelude.{ℕ, ◌≡◌, List}
use Rattle.rt0.specs.Credential.{Role, ◌·◌, entity, role, link, intersection, Credential, ◌⟵◌, head, ◌∈◌}

-- P ρ D: D is a member of the role ρ
abbrev pub Assignment : Type 1
Assignment = Role → ℕ → Type 0

-- what one use of a credential gives to its head from the assignment P:
-- the entity itself; every member of B.r1; every member of X.r2 for every member X of A.r1; whoever is in all the parts
abbrev pub Gives : Assignment → Credential → ℕ → Type 0
Gives P (A · r ⟵ entity B) D = D ≡ B
Gives P (A · r ⟵ role ρ) D = P ρ D
Gives P (A · r ⟵ link r1 r2) D = (X : ℕ) × P (A · r1) X × P (X · r2) D
Gives P (A · r ⟵ intersection parts) D = (ρ : Role) → ρ ∈ parts → P ρ D

-- whatever a credential of the list gives is there already
abbrev pub Closed : List Credential → Assignment → Type 0
Closed cs P = (c : Credential) → c ∈ cs → (D : ℕ) → Gives P c D → P (head c) D

-- the least closed assignment, as what can be derived: one way for each form of credential
pub data Member (cs : List Credential) : Role → ℕ → Type 0 where
  simple : {A r B : ℕ} → (A · r ⟵ entity B) ∈ cs → Member cs (A · r) B
  contained : {A r : ℕ} {ρ : Role} {D : ℕ} → (A · r ⟵ role ρ) ∈ cs → Member cs ρ D → Member cs (A · r) D
  linked : {A r r1 r2 X D : ℕ} → (A · r ⟵ link r1 r2) ∈ cs → Member cs (A · r1) X → Member cs (X · r2) D → Member cs (A · r) D
  common : {A r : ℕ} {parts : List Role} {D : ℕ} → (A · r ⟵ intersection parts) ∈ cs
      → ((ρ : Role) → ρ ∈ parts → Member cs ρ D) → Member cs (A · r) D
