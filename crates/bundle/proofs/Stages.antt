-- The stages of the reader: each answers at the first refusal that applies, and else hands on.
use Rattle.std.specs.Prelude.{Ok, Err}
use Prim.Native.Nat.{ℕ, ◌+◌, ◌-◌, ◌*◌, ◌/◌, ◌%◌, ◌<◌, ◌≤◌}
use mathlib.Core.Path.{◌≡◌, ◌∙◌, ap}
use mathlib.Core.Bool.{Bool, true, false, not, ◌||◌}
use mathlib.Core.List.{List}
use lib.ListN.{length, take}
use lib.Dec.{eqb, ltb}
use native.Mathlib.Omega.{arith}
use borrow.Author.Tests.{lt-ltb, le-ltb, eq-eqb, ne_eqb, eqb-true, eqb-false, ltb-false, not-false}
use Rattle.rt0.specs.Word.{bits_below}
use Rattle.base.specs.Refused.{refusal_at}
use Rattle.base.specs.Byte.{byte_at}
use Rattle.base.specs.Lowest.{lowest, any_below}
use Rattle.base.proofs.Flags.{or_false}
use Rattle.block.specs.Block.{block}
use Rattle.bundle.specs.declared.read.Sizes.{Sizes}
use Rattle.bundle.specs.Edition.{edition_for}
use Rattle.bundle.specs.Layout.{longest_bundle, length_wrong, blocks, entities_of, names_of, records_of, sizes_in, first_byte_wrong, first_wrong, blocks_for, bad_check, bad_beside, bad_record}
use Rattle.bundle.specs.Reading.{mistake_in, record_tests, beside_tests, count_tests, first_tests, check_tests, reader_tests, read_by, read_of}

-- a right length is that of one to seven whole blocks
pub length_right : (n : ℕ) → length_wrong n ≡ false → (1 ≤ n / 512) × (n / 512 ≤ 7) × (n ≡ 512 * (n / 512))
length_right n h =
    let (s, m) = or_false (eqb n 0 || ltb longest_bundle n) (not (eqb (n % 512) 0)) h in
    let (z, l) = or_false (eqb n 0) (ltb longest_bundle n) s in
    let nonzero : n ≡ 0 → ⊥ = eqb-false n 0 z in
    let most : n ≤ 3584 = ltb-false longest_bundle n l in
    let whole : n % 512 ≡ 0 = eqb-true (n % 512) 0 (not-false (eqb (n % 512) 0) m) in
    omega arith

-- the sizes that block 0 says
pub records_said : (bytes : List ℕ) (s : Sizes) → s ≡ sizes_in bytes → s.records ≡ records_of bytes
records_said bytes s e = ap (λ (t : Sizes). t.records) e

module _ (bytes : List ℕ) where
  pub record_refused : (s : Sizes) (i : ℕ) → s ≡ sizes_in bytes → i ≡ lowest (bad_record bytes) s.records → i < s.records
      → (number : ℕ) → number ≡ mistake_in bytes i → Err (refusal_at number (i + 1)) ≡ read_by bytes (record_tests bytes)
  unfolding read_by record_tests
  record_refused s i e l h number m = rw (← records_said bytes s e, ← l, lt-ltb i s.records h, m)

  pub record_passed : (s : Sizes) (i : ℕ) → s ≡ sizes_in bytes → i ≡ lowest (bad_record bytes) s.records → s.records ≤ i
      → Ok s ≡ read_by bytes (record_tests bytes)
  unfolding read_by record_tests
  record_passed s i e l h =
      rw (← records_said bytes s e, ← l, le-ltb i s.records h, e)

  pub beside_refused : (n j : ℕ) → n ≡ blocks bytes → j ≡ lowest (bad_beside bytes) (n - 1) → j < n - 1
      → Err (refusal_at 5 (j + 1)) ≡ read_by bytes (beside_tests bytes)
  unfolding read_by beside_tests
  beside_refused n j e l h = rw (← e, ← l, lt-ltb j (n - 1) h)

  pub beside_passed : (n j : ℕ) → n ≡ blocks bytes → j ≡ lowest (bad_beside bytes) (n - 1) → n - 1 ≤ j
      → read_by bytes (record_tests bytes) ≡ read_by bytes (beside_tests bytes)
  unfolding read_by beside_tests
  beside_passed n j e l h = rw (← e, ← l, le-ltb j (n - 1) h)

  pub count_refused : (s : Sizes) (n : ℕ) → s ≡ sizes_in bytes → n ≡ blocks bytes → (n ≡ blocks_for s.records → ⊥)
      → Err (refusal_at 4 0) ≡ read_by bytes (count_tests bytes)
  unfolding read_by count_tests
  count_refused s n d e h = rw (← e, ← records_said bytes s d, ne_eqb n (blocks_for s.records) h)

  pub count_passed : (s : Sizes) (n : ℕ) → s ≡ sizes_in bytes → n ≡ blocks bytes → n ≡ blocks_for s.records
      → read_by bytes (beside_tests bytes) ≡ read_by bytes (count_tests bytes)
  unfolding read_by count_tests
  count_passed s n d e h = rw (← e, ← records_said bytes s d, eq-eqb n (blocks_for s.records) h)

  pub first_refused : first_wrong (block bytes 0) ≡ true → Err (refusal_at 3 0) ≡ read_by bytes (first_tests bytes)
  unfolding read_by first_tests
  first_refused h = rw h

  pub first_passed : first_wrong (block bytes 0) ≡ false → read_by bytes (count_tests bytes) ≡ read_by bytes (first_tests bytes)
  unfolding read_by first_tests
  first_passed h = rw h

  pub check_refused : (bad : ℕ) → bad ≡ bits_below (bad_check bytes) (blocks bytes) → 0 < bad → Err (refusal_at 2 bad) ≡ read_by bytes (check_tests bytes)
  unfolding read_by check_tests
  check_refused bad e h = rw (← e, lt-ltb 0 bad h)

  pub check_passed : (bad : ℕ) → bad ≡ bits_below (bad_check bytes) (blocks bytes) → bad ≡ 0
      → read_by bytes (first_tests bytes) ≡ read_by bytes (check_tests bytes)
  unfolding read_by check_tests
  check_passed bad e h = rw (← e, h)

  pub length_refused : length_wrong (length bytes) ≡ true → Err (refusal_at 1 0) ≡ read_of bytes
  unfolding read_by reader_tests
  length_refused h = rw h

  pub length_passed : length_wrong (length bytes) ≡ false → read_by bytes (check_tests bytes) ≡ read_of bytes
  unfolding read_by reader_tests
  length_passed h = rw h

-- what was found of block 0 with the edition that its R asks for
pub first_found : (first : List ℕ) (R edition : ℕ) (found : Bool) → R ≡ names_of first → edition ≡ edition_for R
    → found ≡ any_below (λ i. first_byte_wrong edition (entities_of first) i (byte_at first i)) 510 → found ≡ first_wrong first
unfolding first_wrong
first_found first R edition found r e h =
    h ∙ ap (λ (x : ℕ). any_below (λ i. first_byte_wrong x (entities_of first) i (byte_at first i)) 510) (e ∙ ap edition_for r)

-- what was found of the first 512 bytes holds of block 0
pub found_first : (bytes : List ℕ) (found : Bool) → found ≡ first_wrong (take 512 bytes) → found ≡ first_wrong (block bytes 0)
found_first bytes found e = e
