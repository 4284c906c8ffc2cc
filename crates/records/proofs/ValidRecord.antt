-- A record without a mistake: it is a valid credential over E and R, and it is the record of that credential.
use Prim.Native.Nat.{ℕ, zero, suc, ◌<◌}
use mathlib.Core.Path.{◌≡◌, refl}
use mathlib.Core.Bool.{true, false, not, ◌&&◌, true≢false}
use mathlib.Core.Logic.{⊎_elim}
use mathlib.Core.Option.{some}
use mathlib.Core.List.Memᴰ
use mathlib.Core.List.{List, [], ◌∷◌}
use native.Mathlib.Omega.{arith}
use lib.Dec.{eqb}
use borrow.Author.Tests.{eqb-true, not-false}
use Rattle.rt0.specs.Credential.{Role, ◌·◌, IsEntity, IsName, ValidRole, ValidBody, Valid, ◌∈◌}
use Rattle.base.specs.Byte.{byte_at}
use Rattle.base.specs.Range.{outside}
use Rattle.base.proofs.Lowest.{any_false}
use Rattle.base.proofs.Flags.{and_false, either, inside}
use Rattle.records.specs.Kinds.{entity_byte, name_byte, parts_byte, zero_byte, wrong_by, byte_wrong}
use Rattle.records.specs.Mistake.{some_wrong, record_wrong}
use Rattle.records.specs.Form.{record_in, intersection_in, credential_of}
use Rattle.records.specs.Bytes.{body_in, credential_in, bytes_of, twelve_in}

-- the forms of a record, with the number of parts of an intersection
pub data Form (form parts : ℕ) : Type 0 where
  an_entity : form ≡ 1 → Form form parts
  a_role : form ≡ 2 → Form form parts
  a_link : form ≡ 3 → Form form parts
  two_parts : form ≡ 4 → parts ≡ 2 → Form form parts
  three_parts : form ≡ 4 → parts ≡ 3 → Form form parts

form_of : (form parts : ℕ) → outside 4 form ≡ false → (parts_byte form 3 && (not (eqb parts 2) && not (eqb parts 3))) ≡ false
    → Form form parts
form_of zero parts h k = absurd (true≢false h)
form_of (suc zero) parts h k = an_entity refl
form_of (suc (suc zero)) parts h k = a_role refl
form_of (suc (suc (suc zero))) parts h k = a_link refl
form_of (suc (suc (suc (suc zero)))) parts h k = ⊎_elim (two_parts refl) (three_parts refl) (either parts 2 3 k)
form_of (suc (suc (suc (suc (suc n))))) parts h k = absurd (omega (arith, inside 4 (suc (suc (suc (suc (suc n))))) h))

-- every part is a valid role
abbrev AllRoles : ℕ → ℕ → List Role → Type 0
AllRoles E R parts = (ρ : Role) → ρ ∈ parts → ValidRole E R ρ

module _ (E R : ℕ) where
  none_valid : AllRoles E R []
  none_valid ρ m = absurd (Memᴰ.not-nil m)

  more_valid : {σ : Role} {parts : List Role} → ValidRole E R σ → AllRoles E R parts → AllRoles E R (σ ∷ parts)
  more_valid v h ρ (Memᴰ.head e) = rw e v
  more_valid v h ρ (Memᴰ.tail m) = h ρ m

module _ (E R : ℕ) (bytes : List ℕ) (h : record_wrong E R bytes ≡ false) where
  -- no byte is wrong, in any way
  right : (k : ℕ) → k < 5 → (i : ℕ) → i < 12 → byte_wrong E R bytes k i ≡ false
  right k l i m = any_false (byte_wrong E R bytes k) 12 (any_false (some_wrong E R bytes) 5 h k l) i m

  pub form : Form (byte_at bytes 0) (byte_at bytes 3)
  unfolding wrong_by
  form = form_of (byte_at bytes 0) (byte_at bytes 3) (right 0 (omega arith) 0 (omega arith)) (right 1 (omega arith) 3 (omega arith))

  -- a byte that is an entity in this record's form, one that is a name, and the one behind the other
  entity_at : (i : ℕ) → i < 12 → entity_byte (byte_at bytes 0) (byte_at bytes 3) i ≡ true → IsEntity E (byte_at bytes i)
  unfolding wrong_by
  entity_at i l e =
      let (above, within) = inside E (byte_at bytes i) (and_false _ _ (right 2 (omega arith) i l) e) in
      record { above = above; within = within }

  name_at : (i : ℕ) → i < 12 → name_byte (byte_at bytes 0) (byte_at bytes 3) i ≡ true → IsName R (byte_at bytes i)
  unfolding wrong_by
  name_at i l e =
      let (above, within) = inside R (byte_at bytes i) (and_false _ _ (right 3 (omega arith) i l) e) in
      record { above = above; within = within }

  role_at_lem : (i : ℕ) → i < 11 → entity_byte (byte_at bytes 0) (byte_at bytes 3) i ≡ true
      → name_byte (byte_at bytes 0) (byte_at bytes 3) (suc i) ≡ true → ValidRole E R (byte_at bytes i · byte_at bytes (suc i))
  role_at_lem i l e n = (entity_at i (omega arith) e, name_at (suc i) (omega arith) n)

  -- an intersection has two parts, and a third behind them or none
  first_two : byte_at bytes 0 ≡ 4 → (rest : List Role) → AllRoles E R rest
      → AllRoles E R ((byte_at bytes 4 · byte_at bytes 5) ∷ (byte_at bytes 6 · byte_at bytes 7) ∷ rest)
  first_two f rest v =
      more_valid E R (role_at_lem 4 (omega arith) (rw f) (rw f)) (more_valid E R (role_at_lem 6 (omega arith) (rw f) (rw f)) v)

  valid_body_lem : Form (byte_at bytes 0) (byte_at bytes 3) → ValidBody E R (body_in bytes)
  valid_body_lem (an_entity f) = rw f (entity_at 3 (omega arith) (rw f))
  valid_body_lem (a_role f) = rw f (role_at_lem 3 (omega arith) (rw f) (rw f))
  valid_body_lem (a_link f) = rw f (name_at 3 (omega arith) (rw f), name_at 4 (omega arith) (rw f))
  valid_body_lem (two_parts f p) = rw (f, p) (omega arith, omega arith, first_two f [] (none_valid E R))
  valid_body_lem (three_parts f p) =
      let third = role_at_lem 8 (omega arith) (rw (f, p)) (rw (f, p)) in
      rw (f, p) (omega arith, omega arith, first_two f _ (more_valid E R third (none_valid E R)))

  -- it is a valid credential
  pub valid_record : Valid E R (credential_in bytes)
  unfolding credential_in
  valid_record = (role_at_lem 1 (omega arith) refl refl, valid_body_lem form)

  -- it is the record of that credential
  same_credential : Form (byte_at bytes 0) (byte_at bytes 3) → credential_of (record_in bytes) ≡ some (credential_in bytes)
  unfolding record_in intersection_in credential_in
  same_credential (an_entity f) = simp f
  same_credential (a_role f) = simp f
  same_credential (a_link f) = simp f
  same_credential (two_parts f p) = simp (f, p)
  same_credential (three_parts f p) = simp (f, p)

  pub record_is : credential_of (record_in bytes) ≡ some (credential_in bytes)
  record_is = same_credential form

  -- a byte that should be zero
  zero_at : (i : ℕ) → i < 12 → zero_byte (byte_at bytes 0) (byte_at bytes 3) i ≡ true → byte_at bytes i ≡ 0
  unfolding wrong_by
  zero_at i l e = eqb-true (byte_at bytes i) 0 (not-false _ (and_false _ _ (right 4 (omega arith) i l) e))

  -- its twelve bytes are those of its credential
  by_form : Form (byte_at bytes 0) (byte_at bytes 3) → bytes_of (credential_in bytes) ≡ twelve_in bytes
  unfolding bytes_of credential_in
  by_form (an_entity f) =
      rw (
        f,
        zero_at 4 (omega arith) (rw f),
        zero_at 5 (omega arith) (rw f),
        zero_at 6 (omega arith) (rw f),
        zero_at 7 (omega arith) (rw f),
        zero_at 8 (omega arith) (rw f),
        zero_at 9 (omega arith) (rw f),
        zero_at 10 (omega arith) (rw f),
        zero_at 11 (omega arith) (rw f),
      )
  by_form (a_role f) =
      rw (
        f,
        zero_at 5 (omega arith) (rw f),
        zero_at 6 (omega arith) (rw f),
        zero_at 7 (omega arith) (rw f),
        zero_at 8 (omega arith) (rw f),
        zero_at 9 (omega arith) (rw f),
        zero_at 10 (omega arith) (rw f),
        zero_at 11 (omega arith) (rw f),
      )
  by_form (a_link f) =
      rw (
        f,
        zero_at 5 (omega arith) (rw f),
        zero_at 6 (omega arith) (rw f),
        zero_at 7 (omega arith) (rw f),
        zero_at 8 (omega arith) (rw f),
        zero_at 9 (omega arith) (rw f),
        zero_at 10 (omega arith) (rw f),
        zero_at 11 (omega arith) (rw f),
      )
  by_form (two_parts f p) =
      rw (
        f,
        p,
        zero_at 8 (omega arith) (simp (f, p)),
        zero_at 9 (omega arith) (simp (f, p)),
        zero_at 10 (omega arith) (simp (f, p)),
        zero_at 11 (omega arith) (simp (f, p)),
      )
  by_form (three_parts f p) =
      rw (
        f,
        p,
        zero_at 10 (omega arith) (simp (f, p)),
        zero_at 11 (omega arith) (simp (f, p)),
      )

  pub own_bytes : bytes_of (credential_in bytes) ≡ twelve_in bytes
  own_bytes = by_form form
