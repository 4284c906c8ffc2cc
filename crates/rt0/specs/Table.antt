-- Tables 0, 1, 2, .. and the number of rounds. Table n+1 holds what one use of each credential gives from table n alone.
use Rattle.std.specs.Prelude.{ℕ, zero, suc, ◌<◌, ◌≡◌, Bool, true, false, ◌&&◌, ◌||◌, ◌↔◌, List, [], ◌∷◌, eqb}
use Rattle.rt0.specs.Credential.{Role, ◌·◌, Credential, head, ◌∈◌}
use Rattle.rt0.specs.Membership.{Assignment, Gives}

-- what one use of each credential gives from P
abbrev pub next : List Credential → Assignment → Assignment
next cs P ρ D = (c : Credential) × (c ∈ cs) × (head c ≡ ρ) × Gives P c D

-- table 0 is empty, table n+1 what one use of each credential gives from table n
unfoldable pub table : List Credential → ℕ → Assignment
table cs zero ρ D = ⊥
table cs (suc n) ρ D = next cs (table cs n) ρ D

-- two assignments give every role the same members
abbrev pub Same : Assignment → Assignment → Type 0
Same P Q = (ρ : Role) (D : ℕ) → P ρ D ↔ Q ρ D

-- tables n and n+1 are equal
abbrev pub Stable : List Credential → ℕ → Type 0
Stable cs n = Same (table cs n) (table cs (suc n))

-- n is the number of rounds: the least n for which tables n and n+1 are equal
pub record Rounds (cs : List Credential) (n : ℕ) : Type 0 where
  pub equal : Stable cs n
  pub least : (m : ℕ) → m < n → Stable cs m → ⊥

-- the same entity and the same name
abbrev pub same_role : Role → Role → Bool
same_role (A · r) (B · s) = eqb A B && eqb r s

-- the test whether a role occurs in a list
unfoldable pub occurs : Role → List Role → Bool
occurs ρ [] = false
occurs ρ (σ ∷ σs) = same_role ρ σ || occurs ρ σs

-- the list with the role put in front, unless the test holds
abbrev pub added_unless : Bool → Role → List Role → List Role
added_unless true ρ ρs = ρs
added_unless false ρ ρs = ρ ∷ ρs

-- the distinct heads of a list of credentials: each head once
unfoldable pub distinct_heads : List Credential → List Role
distinct_heads [] = []
distinct_heads (c ∷ cs) = added_unless (occurs (head c) (distinct_heads cs)) (head c) (distinct_heads cs)
