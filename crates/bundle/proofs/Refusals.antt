-- What the reader computes is what its table of refusals says: the tests decide the rows. So its answer is the refusal that is due, or what
-- block 0 says where no row applies; and any two answers that keep the promise are equal.
use Rattle.std.specs.Prelude.{Result, Ok}
use Prim.Native.Nat.{ℕ, ◌-◌, ◌%◌, ◌≤◌}
use mathlib.Core.Path.{◌≡◌, refl}
use mathlib.Core.Bool.{not}
use mathlib.Core.Logic.{◌↔◌}
use mathlib.Core.List.{List}
use native.Mathlib.Omega.{arith}
use lib.ListN.{length}
use lib.Dec.{eqb}
use Rattle.base.specs.declared.refusal.Refusal.{Refusal as Refused}
use Rattle.base.specs.Refused.{number_of, place_of}
use Rattle.base.specs.Refusals.{OnePlace, FromOne, AllOnePlace, AllNumbered, Due, Clear, Refusal, given, clear, refused, passed, first}
use Rattle.base.specs.Refusals.{test, zero_if, lowest_from_one}
use Rattle.base.proofs.Flags.{or_tells_three, eq_tells, lt_tells, not_tells, flag_tells}
use Rattle.base.proofs.Refusals.{zero_place, lowest_place, from_one_place, zero_finds, lowest_finds_from_one}
use Rattle.base.proofs.Refusals.{Told, due, none_due, told_more, judged_exactly, judged_clear, judged_given}
use Rattle.bundle.specs.declared.read.Sizes.{Sizes}
use Rattle.block.specs.Block.{block}
use Rattle.bundle.specs.Layout.{longest_bundle, length_wrong, blocks, records_of, first_wrong, blocks_for, bad_check, bad_beside}
use Rattle.bundle.specs.Rows.{MistakeAt, record_rows, reader_rows, Reads, Accepts}
use Rattle.bundle.specs.Reading.{record_tests, beside_tests, count_tests, first_tests, check_tests, reader_tests, read_by, read_of, reading_for}
use Rattle.bundle.specs.Each.{each_place}
use Rattle.bundle.proofs.Each.{each_place_lem, each_finds}
use Rattle.bundle.proofs.RecordRows.{mistake_place, records_told}

module _ (bytes : List ℕ) where
  -- each row applies at one place at most, and has a number
  record_places : AllOnePlace (record_rows bytes)
  record_places =
      let one : (n : ℕ) → OnePlace (FromOne (MistakeAt bytes n)) = λ n. from_one_place (MistakeAt bytes n) (mistake_place bytes n) in
      (one 61, (one 62, (one 63, (one 64, (one 65, tt)))))

  pub reader_places : AllOnePlace (reader_rows bytes)
  reader_places =
      (zero_place _, (each_place_lem _ _, (zero_place _, (zero_place _, (from_one_place _ (lowest_place _ _), record_places)))))

  record_numbers : AllNumbered (record_rows bytes)
  record_numbers = (omega arith, (omega arith, (omega arith, (omega arith, (omega arith, tt)))))

  pub reader_numbers : AllNumbered (reader_rows bytes)
  reader_numbers = (omega arith, (omega arith, (omega arith, (omega arith, (omega arith, record_numbers)))))

  -- the tests tell the rows, in their order
  tests_told : Told (reader_rows bytes) (first (reader_tests bytes))
  unfolding reader_tests check_tests first_tests count_tests beside_tests
  tests_told =
      told_more (test 1 (zero_if (length_wrong (length bytes)))) (check_tests bytes) _ _ refl
      (zero_finds _ (or_tells_three _ _ _ (eq_tells (length bytes) 0) (lt_tells longest_bundle (length bytes)) (not_tells _ (eq_tells (length bytes % 512) 0))))
      (λ _. told_more (test 2 (each_place (bad_check bytes) (blocks bytes))) (first_tests bytes) _ _ refl (each_finds _ _)
      (λ _. told_more (test 3 (zero_if (first_wrong (block bytes 0)))) (count_tests bytes) _ _ refl (zero_finds _ (flag_tells _))
      (λ _. told_more (test 4 (zero_if (not (eqb (blocks bytes) (blocks_for (records_of bytes)))))) (beside_tests bytes) _ _ refl
      (zero_finds _ (not_tells _ (eq_tells _ _)))
      (λ _. told_more (test 5 (lowest_from_one (bad_beside bytes) (blocks bytes - 1))) (record_tests bytes) _ _ refl (lowest_finds_from_one _ _)
      (λ _. records_told bytes)))))

  -- what the tests give is the reader's answer
  pub reads : Reads bytes (read_of bytes)
  unfolding read_by
  reads = by (first (reader_tests bytes)) tests_told
    where
      by : (x : Refusal) → Told (reader_rows bytes) x → Reads bytes (reading_for bytes x)
      by (given n p) (due d) = refused d refl
      by clear (none_due c) = passed refl refl c refl

  -- any answer that is what the tests give
  pub reads_as : (r : Result Sizes (Refused ℕ)) → r ≡ read_of bytes → Reads bytes r
  reads_as r e = rw e reads

  -- an answer that keeps the promise: a refusal that is due, or an accepted bundle
  pub reads_accepted : (s : Sizes) → Reads bytes (Ok s) → Accepts bytes s
  reads_accepted s p =
      let (c, said) = judged_given (reader_rows bytes) reader_places reader_numbers p refl in
      record { clear = c; said = said }

  pub accepts_reads : (s : Sizes) → Accepts bytes s → Reads bytes (Ok s)
  accepts_reads s a = passed refl refl a.clear a.said

  -- number and place exactly when due; number 0 exactly when no row applies
  pub reader_exactly : (r : Result Sizes (Refused ℕ)) → Reads bytes r → (n p : ℕ) → 1 ≤ n → ((number_of r ≡ n) × (place_of r ≡ p)) ↔ Due (reader_rows bytes) n p
  reader_exactly r = judged_exactly (reader_rows bytes) reader_places reader_numbers

  pub reader_clear : (r : Result Sizes (Refused ℕ)) → Reads bytes r → (number_of r ≡ 0) ↔ Clear (reader_rows bytes)
  reader_clear r = judged_clear (reader_rows bytes) reader_places reader_numbers
