-- The word of the names with code 1 or 2 opens, of an accepted bundle, exactly the roles that the sheet leaves open.
use Prim.Native.Nat.{ℕ, zero, suc, ◌+◌, ◌*◌, ◌%◌, ◌^◌, ◌<◌}
use native.Mathlib.Numerals.{add-one, sub-one}
use native.Mathlib.Omega.{arith}
use mathlib.Core.Path.{◌≡◌, refl}
use mathlib.Core.Bool.{true, false, ◌||◌}
use mathlib.Core.List.{List}
use lib.Bits.{bit_or}
use lib.Dec.{eqb}
use Rattle.rt0.specs.Credential.{◌·◌, IsName}
use Rattle.rt0.proofs.BitsBelow.{bits_told, bits_one, bits_other}
use Rattle.bundle.specs.Edition.{most_names}
use Rattle.bundle.specs.Layout.{sizes_in}
use Rattle.bundle.specs.Rows.{Accepts}
use Rattle.bundle.proofs.Accepted.{accepted_contents}
use Rattle.sheet.specs.Sheet.{code_of}
use Rattle.tables.specs.Open.{names_in, open_names}
use Rattle.tables.proofs.Opened.{flag}
use Rattle.with_sheet.specs.Open.{loose, open_by_sheet, loose_word}
use Rattle.with_sheet.proofs.Within.{Agree}

module _ (sheet : List ℕ) where
  names_agree : (r : ℕ) → IsName most_names r → names_in (loose_word sheet most_names) r ≡ loose sheet r
  unfolding loose_word
  names_agree zero i = absurd (omega arith)
  names_agree (suc d) i =
      let told = bits_told (λ k. loose sheet (suc k)) most_names d in
      rw (sub-one (suc d)) (flag (loose_word sheet most_names) d (loose sheet (suc d)) (λ h. (told.0 h).1, λ e. told.1 (omega arith, e)))

  pub loosened : (bytes : List ℕ) → Agree bytes (open_names (loose_word sheet most_names) bytes) (open_by_sheet sheet bytes)
  loosened bytes clear (A · r) v =
      let accepts : Accepts bytes (sizes_in bytes) = record { clear = clear; said = refl } in
      rw (names_agree r (omega (arith, v.1, (accepted_contents bytes (sizes_in bytes) accepts).names_most)))

-- as the code works the word out: one name more
module _ (sheet : List ℕ) (k word code : ℕ) (e : word ≡ loose_word sheet k) (is : code ≡ code_of sheet (k + 1)) where
  pub loose_one : k < most_names → (eqb code 1 || eqb code 2) ≡ true → bit_or word (1 * 2 ^ k % 2 ^ 32) ≡ loose_word sheet (k + 1)
  unfolding loose_word
  loose_one l h = bits_one _ k word e 32 l (rw (is, add-one) at h)

  pub loose_other : (eqb code 1 || eqb code 2) ≡ false → word ≡ loose_word sheet (k + 1)
  unfolding loose_word
  loose_other h = bits_other _ k word e (rw (is, add-one) at h)
