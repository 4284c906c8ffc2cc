-- Lines and records, as twelve bytes without a mistake: two records with the same line are equal, and a right line has exactly one record.
use Prim.Native.Nat.{ℕ, ◌<◌}
use native.Mathlib.Omega.{arith}
use mathlib.Core.Path.{◌≡◌, refl, ap, sym, ◌∙◌}
use mathlib.Core.Bool.{false}
use mathlib.Core.List.{List, [], ◌∷◌}
use lib.ListN.{length, drop_of_length-le}
use lib.Seq.{drop-cons}
use Rattle.rt0.specs.Credential.{◌·◌, entity, role, link, intersection, Credential, ◌⟵◌, Valid}
use Rattle.records.specs.Mistake.{record_wrong}
use Rattle.records.specs.Bytes.{credential_in, bytes_of, twelve_in}
use Rattle.records.proofs.Mistakes.{right_record}
use Rattle.records.proofs.ValidRecord.{valid_record, own_bytes}
use Rattle.records.proofs.Encoded.{encoded_right, encoded_credential}
use Rattle.spelling.specs.Line.{line_of, RightLine}
use Rattle.candidates.proofs.Unique.{line_one}

pub record_size : (E R : ℕ) (c : Credential) → Valid E R c → length (bytes_of c) ≡ 12
unfolding bytes_of
record_size E R (A · r ⟵ entity B) v = refl
record_size E R (A · r ⟵ role (B · s)) v = refl
record_size E R (A · r ⟵ link s t) v = refl
record_size E R (A · r ⟵ intersection []) (_, (l, _, _)) = absurd (omega arith)
record_size E R (A · r ⟵ intersection (ρ ∷ [])) (_, (l, _, _)) = absurd (omega arith)
record_size E R (A · r ⟵ intersection (B · s ∷ C · t ∷ [])) v = refl
record_size E R (A · r ⟵ intersection (B · s ∷ C · t ∷ D · u ∷ [])) v = refl
record_size E R (A · r ⟵ intersection (ρ ∷ σ ∷ τ ∷ υ ∷ more)) (_, (_, l, _)) = absurd (omega arith)

twelve_is : (bytes : List ℕ) → length bytes ≡ 12 → bytes ≡ twelve_in bytes
twelve_is bytes size =
    drop-cons bytes 0 0 (omega arith)
    ∙ rw (
      drop-cons bytes 1 0 (omega arith),
      drop-cons bytes 2 0 (omega arith),
      drop-cons bytes 3 0 (omega arith),
      drop-cons bytes 4 0 (omega arith),
      drop-cons bytes 5 0 (omega arith),
      drop-cons bytes 6 0 (omega arith),
      drop-cons bytes 7 0 (omega arith),
      drop-cons bytes 8 0 (omega arith),
      drop-cons bytes 9 0 (omega arith),
      drop-cons bytes 10 0 (omega arith),
      drop-cons bytes 11 0 (omega arith),
      drop_of_length-le bytes {i = 12} (omega arith),
    )

-- a record over E and R
abbrev pub RightRecord : ℕ → ℕ → List ℕ → Type 0
RightRecord E R bytes = (length bytes ≡ 12) × (record_wrong E R bytes ≡ false)

-- it is that of its credential
pub own_record : (E R : ℕ) (bytes : List ℕ) → RightRecord E R bytes → bytes_of (credential_in bytes) ≡ bytes
own_record E R bytes (size, right) = own_bytes E R bytes right ∙ sym (twelve_is bytes size)

-- a line is that of one record and of no other
pub record OneRecord (E R : ℕ) (line : List ℕ) : Type 0 where
  pub bytes : List ℕ
  pub right : RightRecord E R bytes
  pub line_is : line ≡ line_of (credential_in bytes)
  pub only : (other : List ℕ) → RightRecord E R other → line ≡ line_of (credential_in other) → other ≡ bytes

module _ (E R : ℕ) (few_entities : E < 100) (few_names : R < 100) where
  -- two records with the same line are equal
  pub record_one : (one two : List ℕ) → RightRecord E R one → RightRecord E R two → line_of (credential_in one) ≡ line_of (credential_in two) → one ≡ two
  record_one one two (m, v) (n, w) e =
      sym (own_record E R one (m, v))
      ∙ ap bytes_of (line_one E R few_entities few_names (credential_in one) (credential_in two) (valid_record E R one v) (valid_record E R two w) e)
      ∙ own_record E R two (n, w)

  -- a right line has exactly one record
  pub right_one : (line : List ℕ) → RightLine E R line → OneRecord E R line
  right_one line (c, v, e) =
      let right : RightRecord E R (bytes_of c) = (record_size E R c v, (right_record E R (bytes_of c)).1 (encoded_right E R c v)) in
      let own : line ≡ line_of (credential_in (bytes_of c)) = e ∙ ap line_of (sym (encoded_credential E R c v)) in
      record { bytes = bytes_of c; right = right; line_is = own; only = λ other w f. record_one other (bytes_of c) w right (sym f ∙ own) }
