-- The credentials of RT0: a role, the four bodies, and when a credential is valid over E entities and R role names.
-- Entities and role names are numbers; which numbers are meant is what "valid" says.
use Rattle.std.specs.Prelude.{ℕ, ◌≤◌, length}
use mathlib.Core.List.{List, Memᴰ}

infix 70 ◌·◌
infix 60 ◌⟵◌
infix 50 ◌∈◌
-- a ∈ l: a occurs in the list l
abbrev pub ◌∈◌ : {A : Type 0} → A → List A → Type 0
a ∈ l = Memᴰ a l

-- A · r is the role r of the entity A
pub data Role : Type 0 where
  ◌·◌ : ℕ → ℕ → Role

-- the body of a credential whose issuer is A
pub data Body : Type 0 where
  -- the entity B
  entity : ℕ → Body
  -- the role B.r1
  role : Role → Body
  -- the linked role A.r1.r2
  link : ℕ → ℕ → Body
  -- the intersection B1.r1 ∩ B2.r2 (∩ B3.r3)
  intersection : List Role → Body

-- A · r ⟵ e is the credential with issuer A, head A.r and body e
pub data Credential : Type 0 where
  ◌⟵◌ : Role → Body → Credential

abbrev pub entity_of : Role → ℕ
entity_of (A · r) = A

abbrev pub name_of : Role → ℕ
name_of (A · r) = r

abbrev pub head : Credential → Role
head (ρ ⟵ e) = ρ

abbrev pub issuer : Credential → ℕ
issuer (ρ ⟵ e) = entity_of ρ

-- 1 to E; 0 is never an entity
pub record IsEntity (E A : ℕ) : Type 0 where
  pub above : 1 ≤ A
  pub within : A ≤ E

-- 1 to R; 0 is never a role name
pub record IsName (R r : ℕ) : Type 0 where
  pub above : 1 ≤ r
  pub within : r ≤ R

abbrev pub ValidRole : ℕ → ℕ → Role → Type 0
ValidRole E R (A · r) = IsEntity E A × IsName R r

-- an intersection has two or three parts
abbrev pub ValidBody : ℕ → ℕ → Body → Type 0
ValidBody E R (entity B) = IsEntity E B
ValidBody E R (role ρ) = ValidRole E R ρ
ValidBody E R (link r1 r2) = IsName R r1 × IsName R r2
ValidBody E R (intersection parts) =
    (2 ≤ length parts) × (length parts ≤ 3) × ((ρ : Role) → ρ ∈ parts → ValidRole E R ρ)

abbrev pub Valid : ℕ → ℕ → Credential → Type 0
Valid E R (ρ ⟵ e) = ValidRole E R ρ × ValidBody E R e

-- every credential of the list is valid
abbrev pub AllValid : ℕ → ℕ → List Credential → Type 0
AllValid E R cs = (c : Credential) → c ∈ cs → Valid E R c
