-- The head of a record is the head of the credential that it is.
use Rattle.std.specs.Prelude.{Option, Some, None}
use mathlib.Core.Path.{◌≡◌, refl}
use Rattle.records.specs.declared.form.Record.{Record}
use Rattle.records.specs.declared.form.Record.TheVariants as variant
use Rattle.records.specs.Form.{head_of, credential_of, head_maybe, head_role}

pub head_credential : (k : Option Record) → head_role (head_of k) ≡ head_maybe (credential_of k)
head_credential (Some (variant.Entity h B)) = refl
head_credential (Some (variant.Role h ρ)) = refl
head_credential (Some (variant.Link h r1 r2)) = refl
head_credential (Some (variant.TwoParts h ρ σ)) = refl
head_credential (Some (variant.ThreeParts h ρ σ τ)) = refl
head_credential None = refl
