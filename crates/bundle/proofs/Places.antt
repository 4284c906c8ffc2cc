-- How large the place of a refusal of the reader is, for any bytes: below 128 of the blocks whose checks differ, a bit for each of at most
-- seven, and at most 240 of every row. Whoever hands a place on cites this and not the rows.
use Prim.Native.Nat.{ℕ, ◌≤◌, ◌<◌}
use native.Mathlib.Decide.{dec_lt}
use native.Mathlib.Nat.{lt_of_lt_of_le}
use native.Mathlib.Omega.{arith}
use mathlib.Core.Logic.{inl, inr, by_cases}
use mathlib.Core.Path.{refl}
use mathlib.Core.List.{List}
use lib.ListN.{length}
use lib.Pow.{pow_mono}
use Rattle.base.specs.Refusals.{FromOne, Due}
use Rattle.base.proofs.Flags.{not_true_false}
use Rattle.bundle.specs.Each.{EachBelow}
use Rattle.bundle.specs.Layout.{longest_bundle, blocks, records_of, bad_check}
use Rattle.bundle.specs.Rows.{LengthWrong, MistakeAt, record_rows, reader_rows}
use Rattle.bundle.proofs.Each.{each_small}
use Rattle.bundle.proofs.FirstBlock.{records_right}

module _ (bytes : List ℕ) where
  -- a length that is not wrong is that of seven blocks at most
  few_blocks : (LengthWrong (length bytes) → ⊥) → blocks bytes ≤ 7
  few_blocks right = by_cases (dec_lt longest_bundle (length bytes)) (λ long. absurd (right (inr (inl long)))) (λ most. omega arith)

  pub bad_blocks_small : (LengthWrong (length bytes) → ⊥) → (place : ℕ) → EachBelow (bad_check bytes) (blocks bytes) place → place < 128
  bad_blocks_small right place a = lt_of_lt_of_le (each_small _ _ place a) (pow_mono (few_blocks right))

  mistake_few : (number p : ℕ) → records_of bytes ≤ 240 → FromOne (MistakeAt bytes number) p → p ≤ 240
  mistake_few number p few (i, e, a) = omega (arith, e, few, a.record_there.below)

  record_place : (number place : ℕ) → records_of bytes ≤ 240 → Due (record_rows bytes) number place → place ≤ 240
  record_place number place few (inl (_, a)) = mistake_few 61 place few a
  record_place number place few (inr (_, inl (_, a))) = mistake_few 62 place few a
  record_place number place few (inr (_, inr (_, inl (_, a)))) = mistake_few 63 place few a
  record_place number place few (inr (_, inr (_, inr (_, inl (_, a))))) = mistake_few 64 place few a
  record_place number place few (inr (_, inr (_, inr (_, inr (_, inl (_, a)))))) = mistake_few 65 place few a
  record_place number place few (inr (_, inr (_, inr (_, inr (_, inr (_, d)))))) = absurd d

  pub reader_place : (number place : ℕ) → Due (reader_rows bytes) number place → place ≤ 240
  reader_place number place (inl (_, (e, _))) = omega arith
  reader_place number place (inr (one, inl (_, a))) = omega (arith, bad_blocks_small (λ w. one (0, (refl, w))) place a)
  reader_place number place (inr (_, inr (_, inl (_, (e, _))))) = omega arith
  reader_place number place (inr (_, inr (_, inr (_, inl (_, (e, _)))))) = omega arith
  reader_place number place (inr (one, inr (_, inr (_, inr (_, inl (_, (j, e, a))))))) =
      omega (arith, e, few_blocks (λ w. one (0, (refl, w))), a.below)
  reader_place number place (inr (_, inr (_, inr (three, inr (_, inr (_, d)))))) =
      record_place number place (records_right bytes (not_true_false _ (λ h. three (0, (refl, h))))) d
