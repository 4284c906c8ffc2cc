-- The credential that twelve bytes are, and the twelve bytes of a credential: each form as the paper lays it out. Where an intersection has
-- neither two nor three parts there is no such record, and its bytes are those of none.
use Rattle.std.specs.Prelude.{ℕ, ◌-◌, cond, List, [], ◌∷◌, ◌++◌, length, replicate, eqb}
use Rattle.rt0.specs.Credential.{Role, ◌·◌, Body, entity, role, link, intersection, Credential, ◌⟵◌}
use Rattle.base.specs.Byte.{byte_at}

-- the parts of an intersection
abbrev pub parts_in : List ℕ → List Role
parts_in bytes =
    (byte_at bytes 4 · byte_at bytes 5)
    ∷ (byte_at bytes 6 · byte_at bytes 7)
    ∷ cond (eqb (byte_at bytes 3) 3) ((byte_at bytes 8 · byte_at bytes 9) ∷ []) []

-- the body: form 1 has B at 3; form 2 B, r1 at 3, 4; form 3 r1, r2 at 3, 4; form 4 its parts from 4 on
abbrev pub body_in : List ℕ → Body
body_in bytes =
    cond (eqb (byte_at bytes 0) 1) (entity (byte_at bytes 3))
    (cond (eqb (byte_at bytes 0) 2) (role (byte_at bytes 3 · byte_at bytes 4))
    (cond (eqb (byte_at bytes 0) 3) (link (byte_at bytes 3) (byte_at bytes 4)) (intersection (parts_in bytes))))

-- the credential: the issuer at 1, the role name at 2, and the body
unfoldable pub credential_in : List ℕ → Credential
credential_in bytes = byte_at bytes 1 · byte_at bytes 2 ⟵ body_in bytes

-- the other way: the bytes from byte 3 on
abbrev pub body_bytes : Body → List ℕ
body_bytes (entity B) = B ∷ []
body_bytes (role (B · r1)) = B ∷ r1 ∷ []
body_bytes (link r1 r2) = r1 ∷ r2 ∷ []
body_bytes (intersection []) = []
body_bytes (intersection (ρ ∷ [])) = []
body_bytes (intersection (B · r ∷ C · s ∷ [])) = 2 ∷ B ∷ r ∷ C ∷ s ∷ []
body_bytes (intersection (B · r ∷ C · s ∷ D · t ∷ [])) = 3 ∷ B ∷ r ∷ C ∷ s ∷ D ∷ t ∷ []
body_bytes (intersection (ρ ∷ σ ∷ τ ∷ υ ∷ more)) = []

abbrev pub form_of : Body → ℕ
form_of (entity B) = 1
form_of (role ρ) = 2
form_of (link r1 r2) = 3
form_of (intersection parts) = 4

-- these bytes, and zeros behind them up to twelve
abbrev pub twelve : List ℕ → List ℕ
twelve bytes = bytes ++ replicate (12 - length bytes) 0

-- the form, the issuer, the role name, and the body
unfoldable pub bytes_of : Credential → List ℕ
bytes_of (A · r ⟵ e) = twelve (form_of e ∷ A ∷ r ∷ body_bytes e)

-- the twelve bytes of a record, as they stand in any list
abbrev pub twelve_in : List ℕ → List ℕ
twelve_in bytes =
    byte_at bytes 0 ∷ byte_at bytes 1 ∷ byte_at bytes 2 ∷ byte_at bytes 3 ∷ byte_at bytes 4 ∷ byte_at bytes 5 ∷ byte_at bytes 6 ∷ byte_at bytes 7
    ∷ byte_at bytes 8 ∷ byte_at bytes 9 ∷ byte_at bytes 10 ∷ byte_at bytes 11 ∷ []
