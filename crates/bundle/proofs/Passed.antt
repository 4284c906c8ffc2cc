-- What it says that no row of the reader's table applies, test by test, in both directions.
use Prim.Native.Nat.{ℕ, ◌-◌}
use mathlib.Core.Path.{◌≡◌, refl, sym}
use mathlib.Core.Bool.{Bool, true, false, true≢false}
use mathlib.Core.List.{List}
use lib.ListN.{length}
use lib.Dec.{eqb}
use Rattle.base.specs.Refusals.{Clear}
use Rattle.base.proofs.Flags.{Tells, or_tells_three, eq_tells, lt_tells, not_tells, not_true_false, clash_flag}
use Rattle.base.proofs.Lowest.{Missed}
use Rattle.base.proofs.Refusals.{none_missed, missed_no}
use Rattle.block.specs.Block.{block}
use Rattle.bundle.specs.Layout.{longest_bundle, length_wrong, blocks, records_of, first_wrong, blocks_for, bad_check, bad_beside, bad_record}
use Rattle.bundle.specs.Rows.{LengthWrong, reader_rows}
use Rattle.bundle.proofs.Each.{none_each, missed_each}
use Rattle.bundle.proofs.RecordRows.{clear_records, records_clear}

pub record Passed (bytes : List ℕ) : Type 0 where
  pub right_length : length_wrong (length bytes) ≡ false
  pub right_checks : Missed (bad_check bytes) (blocks bytes)
  pub right_first : first_wrong (block bytes 0) ≡ false
  pub right_count : blocks bytes ≡ blocks_for (records_of bytes)
  pub right_beside : Missed (bad_beside bytes) (blocks bytes - 1)
  pub right_records : Missed (bad_record bytes) (records_of bytes)

length_tells : (n : ℕ) → Tells (length_wrong n) (LengthWrong n)
length_tells n = or_tells_three _ _ _ (eq_tells n 0) (lt_tells longest_bundle n) (not_tells _ (eq_tells _ 0))

module _ (bytes : List ℕ) where
  fits : ((blocks bytes ≡ blocks_for (records_of bytes) → ⊥) → ⊥) → blocks bytes ≡ blocks_for (records_of bytes)
  fits h = by (eqb (blocks bytes) (blocks_for (records_of bytes))) (eq_tells _ _)
    where
      by : (b : Bool) → Tells b (blocks bytes ≡ blocks_for (records_of bytes)) → blocks bytes ≡ blocks_for (records_of bytes)
      by true t = t.0 refl
      by false t = absurd (h (λ e. true≢false (sym (t.1 e))))

  pub clear_passed : Clear (reader_rows bytes) → Passed bytes
  clear_passed (one, (two, (three, (four, (five, records))))) =
      record {
        right_length = not_true_false _ (λ h. one (0, (refl, (length_tells (length bytes)).0 h)));
        right_checks = none_each _ _ (λ p a. two (p, a));
        right_first = not_true_false _ (λ h. three (0, (refl, h)));
        right_count = fits (λ n. four (0, (refl, n)));
        right_beside = none_missed _ _ (λ k a. five (_, (k, refl, a)));
        right_records = clear_records bytes records;
      }

  pub passed_clear : Passed bytes → Clear (reader_rows bytes)
  passed_clear p = (
    λ (_, (_, w)). clash_flag ((length_tells (length bytes)).1 w) p.right_length,
    (
      λ (k, a). missed_each _ _ k p.right_checks a,
      (
        λ (_, (_, h)). clash_flag h p.right_first,
        (
          λ (_, (_, n)). n p.right_count,
          (λ (_, (k, _, a)). missed_no _ _ k p.right_beside a, records_clear bytes p.right_records),
        ),
      ),
    ),
  )
