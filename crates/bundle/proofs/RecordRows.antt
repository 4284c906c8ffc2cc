-- The rows on records: what is wrong with the lowest wrong record. One of the five is due where some record is wrong, with the number of
-- its first mistake; and none applies where every record is right.
use Prim.Native.Nat.{ℕ, zero, suc, ◌+◌, ◌<◌}
use native.Mathlib.Decide.{dec_lt}
use native.Mathlib.Numerals.{add-one}
use native.Mathlib.Omega.{arith}
use mathlib.Core.Path.{◌≡◌, refl, sym, subst}
use mathlib.Core.Logic.{inl, inr}
use mathlib.Core.List.{List, [], ◌∷◌}
use borrow.Author.Tests.{lt-ltb, le-ltb, ltb-true}
use Rattle.base.specs.Lowest.{LowestBelow, lowest}
use Rattle.base.specs.Refusals.{row, FromOne, OnePlace, Applies, Due, Clear, test, place_below, first}
use Rattle.base.proofs.Lowest.{Missed, lowest_is}
use Rattle.base.proofs.Refusals.{lowest_place, lowest_there, missed_no, due_unique, due_clear, Told, due, none_due}
use Rattle.records.specs.Mistake.{mistake_rows, mistake_kind, kind_number}
use Rattle.records.proofs.Mistakes.{one_place, wrong_due}
use Rattle.bundle.specs.Layout.{entities_of, names_of, records_of, record_bytes, bad_record}
use Rattle.bundle.specs.Rows.{MistakeAt, record_rows}
use Rattle.bundle.specs.Reading.{mistake_in, record_tests}

module _ (bytes : List ℕ) where
  pub mistake_place : (number : ℕ) → OnePlace (MistakeAt bytes number)
  mistake_place number p q a b = lowest_place (bad_record bytes) (records_of bytes) p q a.record_there b.record_there

  -- record i is the lowest wrong one
  module _ (i : ℕ) (l : LowestBelow (bad_record bytes) (records_of bytes) i) where
    abbrev kind : ℕ
    kind = mistake_kind (entities_of bytes) (names_of bytes) (record_bytes bytes i)

    its_mistake : Due (mistake_rows (entities_of bytes) (names_of bytes) (record_bytes bytes i)) (kind_number kind) 0
    its_mistake = wrong_due (entities_of bytes) (names_of bytes) (record_bytes bytes i) l.holds

    -- its row applies
    here : (number : ℕ) → kind_number kind ≡ number → FromOne (MistakeAt bytes number) (suc i)
    here number e = (i, refl, record { record_there = l; mistake = rw e at its_mistake })

    -- and no other
    other : (number : ℕ) → (kind_number kind ≡ number → ⊥) → Applies (row number (FromOne (MistakeAt bytes number))) → ⊥
    other number n (p, (k, e, a)) =
        let same : k ≡ i = lowest_place (bad_record bytes) (records_of bytes) k i a.record_there l in
        n (due_unique (mistake_rows (entities_of bytes) (names_of bytes) (record_bytes bytes i)) (one_place (entities_of bytes) (names_of bytes) (record_bytes bytes i)) (kind_number kind) 0 number 0
        its_mistake (rw same at a.mistake)).0

    by_kind : (k : ℕ) → kind ≡ k → k < 5 → Due (record_rows bytes) (61 + k) (suc i)
    by_kind zero e b = inl (refl, here 61 (rw e))
    by_kind (suc zero) e b = inr (other 61 (λ h. omega (arith, rw e at h)), inl (refl, here 62 (rw e)))
    by_kind (suc (suc zero)) e b =
        inr (other 61 (λ h. omega (arith, rw e at h)), inr (other 62 (λ h. omega (arith, rw e at h)), inl (refl, here 63 (rw e))))
    by_kind (suc (suc (suc zero))) e b =
        inr (
          other 61 (λ h. omega (arith, rw e at h)),
          inr (
            other 62 (λ h. omega (arith, rw e at h)),
            inr (other 63 (λ h. omega (arith, rw e at h)), inl (refl, here 64 (rw e))),
          ),
        )
    by_kind (suc (suc (suc (suc zero)))) e b =
        inr (
          other 61 (λ h. omega (arith, rw e at h)),
          inr (
            other 62 (λ h. omega (arith, rw e at h)),
            inr (other 63 (λ h. omega (arith, rw e at h)), inr (other 64 (λ h. omega (arith, rw e at h)), inl (refl, here 65 (rw e)))),
          ),
        )
    by_kind (suc (suc (suc (suc (suc k))))) e b = absurd (omega arith)

    pub record_due : Due (record_rows bytes) (mistake_in bytes i) (suc i)
    unfolding mistake_kind
    record_due =
        let few : kind < 5 = ltb-true kind 5 l.holds in
        rw (lt-ltb kind 5 few) (by_kind kind refl few)

  -- no record is wrong
  pub none_applies : (number : ℕ) → Missed (bad_record bytes) (records_of bytes) → Applies (row number (FromOne (MistakeAt bytes number))) → ⊥
  none_applies number m (p, (k, e, a)) = missed_no (bad_record bytes) (records_of bytes) k m a.record_there

  pub records_clear : Missed (bad_record bytes) (records_of bytes) → Clear (record_rows bytes)
  records_clear m = (none_applies 61 m, (none_applies 62 m, (none_applies 63 m, (none_applies 64 m, (none_applies 65 m, tt)))))

  pub clear_records : Clear (record_rows bytes) → Missed (bad_record bytes) (records_of bytes)
  clear_records c = by (dec_lt (lowest (bad_record bytes) (records_of bytes)) (records_of bytes))
    where
      by : Dec (lowest (bad_record bytes) (records_of bytes) < records_of bytes) → Missed (bad_record bytes) (records_of bytes)
      by (yes l) = absurd (due_clear (record_rows bytes) (mistake_in bytes (lowest (bad_record bytes) (records_of bytes))) (suc (lowest (bad_record bytes) (records_of bytes))) c
          (record_due (lowest (bad_record bytes) (records_of bytes)) (lowest_there (bad_record bytes) (records_of bytes) l)))
      by (no n) = λ j b. (lowest_is (bad_record bytes) (records_of bytes)).missed j (omega arith)

  -- the test of the records tells these rows
  pub records_told : Told (record_rows bytes) (first (record_tests bytes))
  unfolding record_tests
  records_told = by (lowest (bad_record bytes) (records_of bytes)) refl (dec_lt (lowest (bad_record bytes) (records_of bytes)) (records_of bytes))
    where
      by : (i : ℕ) → i ≡ lowest (bad_record bytes) (records_of bytes) → Dec (i < records_of bytes)
          → Told (record_rows bytes) (first (test (mistake_in bytes i) (place_below i (records_of bytes) (i + 1)) ∷ []))
      by i e (yes l) =
          let there : LowestBelow (bad_record bytes) (records_of bytes) i = rw e (lowest_there (bad_record bytes) (records_of bytes) (rw (← e) l)) in
          let d : Due (record_rows bytes) (mistake_in bytes i) (i + 1) =
          subst (Due (record_rows bytes) (mistake_in bytes i)) (sym (add-one i)) (record_due i there) in
          rw (lt-ltb i (records_of bytes) l) (due d)
      by i e (no m) =
          rw (le-ltb i (records_of bytes) (omega arith))
          (none_due (records_clear (λ j b. (lowest_is (bad_record bytes) (records_of bytes)).missed j (omega arith))))
