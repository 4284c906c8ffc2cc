-- The record that twelve bytes are, by its form, and the credential of RT0 that a record is.
use Rattle.std.specs.Prelude.{ℕ, ◌+◌, cond, List, [], ◌∷◌, eqb, Option as Maybe, Some, None}
use Rattle.std.proofs.Math.Option.{Option, none, some}
use Rattle.rt0.specs.Credential.{◌·◌, entity, role, link, intersection, Credential, ◌⟵◌, head}
use Rattle.rt0.specs.Credential.{Role as RT0Role}
use Rattle.base.specs.Byte.{byte_at}
use Rattle.records.specs.declared.form.Role.{Role}
use Rattle.records.specs.declared.form.Record.{Record}
use Rattle.records.specs.declared.form.Record.TheVariants as variant

-- the role that the bytes at a place are
abbrev pub role_in : List ℕ → ℕ → Role
role_in bytes at = record { entity = byte_at bytes at; name = byte_at bytes (at + 1) }

unfoldable pub intersection_in : List ℕ → Record
intersection_in bytes =
    cond (eqb (byte_at bytes 3) 3)
    (variant.ThreeParts (role_in bytes 1) (role_in bytes 4) (role_in bytes 6) (role_in bytes 8))
    (variant.TwoParts (role_in bytes 1) (role_in bytes 4) (role_in bytes 6))

-- the record by its form; of an unknown form there is none
unfoldable pub record_in : List ℕ → Maybe Record
record_in bytes =
    cond (eqb (byte_at bytes 0) 1) (Some (variant.Entity (role_in bytes 1) (byte_at bytes 3)))
    (cond (eqb (byte_at bytes 0) 2) (Some (variant.Role (role_in bytes 1) (role_in bytes 3)))
    (cond (eqb (byte_at bytes 0) 3) (Some (variant.Link (role_in bytes 1) (byte_at bytes 3) (byte_at bytes 4)))
    (cond (eqb (byte_at bytes 0) 4) (Some (intersection_in bytes)) None)))

-- the head of a record, where there is one
abbrev pub head_of : Maybe Record → Maybe Role
head_of (Some (variant.Entity h B)) = Some h
head_of (Some (variant.Role h ρ)) = Some h
head_of (Some (variant.Link h r1 r2)) = Some h
head_of (Some (variant.TwoParts h ρ σ)) = Some h
head_of (Some (variant.ThreeParts h ρ σ τ)) = Some h
head_of None = None

-- the role of RT0 that a role is
abbrev pub role_of : Role → RT0Role
role_of ρ = ρ.entity · ρ.name

-- the credential of RT0 that a record is
abbrev pub credential_of : Maybe Record → Option Credential
credential_of (Some (variant.Entity h B)) = some (role_of h ⟵ entity B)
credential_of (Some (variant.Role h ρ)) = some (role_of h ⟵ role (role_of ρ))
credential_of (Some (variant.Link h r1 r2)) = some (role_of h ⟵ link r1 r2)
credential_of (Some (variant.TwoParts h ρ σ)) = some (role_of h ⟵ intersection (role_of ρ ∷ role_of σ ∷ []))
credential_of (Some (variant.ThreeParts h ρ σ τ)) = some (role_of h ⟵ intersection (role_of ρ ∷ role_of σ ∷ role_of τ ∷ []))
credential_of None = none

-- the head of a credential, if there is one
abbrev pub head_maybe : Option Credential → Option RT0Role
head_maybe none = none
head_maybe (some c) = some (head c)

abbrev pub head_role : Maybe Role → Option RT0Role
head_role (Some h) = some (role_of h)
head_role None = none
