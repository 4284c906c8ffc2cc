-- The blocks of a content that is given as E, R, a list of marks and a list of records one after the other: each byte from these lists.
use Prim.Native.Nat.{ℕ, zero, suc, ◌+◌, ◌-◌, ◌*◌, ◌/◌, ◌%◌, ◌<◌}
use mathlib.Core.Path.{◌≡◌, refl, sym, ◌∙◌, ap}
use mathlib.Core.List.{List, []}
use native.Mathlib.Decide.{dec_lt, ℕ_discrete}
use native.Mathlib.Omega.{arith}
use lib.ListN.{length, drop, length-drop, get_or-eq_default}
use lib.Seq.{get_or-take, get_or-drop, length-take-le}
use borrow.Author.Tests.{lt-ltb, le-ltb, ne_eqb}
use Rattle.bundle.specs.Layout.{records_in}
use Rattle.content.specs.Content.{Content, count, record_at, listed, whole_records, content_from}
use Rattle.content.specs.Encode.{edition_of, first_byte, records_byte, sealed_block}
use Rattle.content.specs.InPlace.{given_byte, listed_byte}
use Rattle.content.proofs.Tabulated.{length_tabulate, item_tabulate, item_behind}
use Rattle.content.proofs.Sealed.{sealed_block_same}
use Rattle.content.proofs.RecordBlock.{place_byte, gap_byte, number_byte, count_byte}

module _ (E R : ℕ) (marks list : List ℕ) where
  abbrev c : Content
  c = content_from E R marks list

  pub count_given : count c ≡ whole_records list
  count_given = length_tabulate (listed list) (whole_records list)

  given_byte_lem : (i : ℕ) → given_byte (edition_of c) E R (whole_records list) marks i ≡ first_byte c i
  given_byte_lem zero = refl
  given_byte_lem (suc zero) = refl
  given_byte_lem (suc (suc zero)) = refl
  given_byte_lem (suc (suc (suc zero))) = sym count_given
  given_byte_lem (suc (suc (suc (suc i)))) =
      let at : suc (suc (suc (suc i))) - 4 ≡ i = omega arith in
      rw (
        ne_eqb (suc (suc (suc (suc i)))) 0 (λ e. omega arith),
        ne_eqb (suc (suc (suc (suc i)))) 1 (λ e. omega arith),
        ne_eqb (suc (suc (suc (suc i)))) 2 (λ e. omega arith),
        ne_eqb (suc (suc (suc (suc i)))) 3 (λ e. omega arith),
        at,
      )

  -- block 0
  pub first_given : (N : ℕ) → N ≡ whole_records list → sealed_block (given_byte (edition_of c) E R N marks) ≡ sealed_block (first_byte c)
  first_given N e = rw e (sealed_block_same _ (first_byte c) (λ i l. given_byte_lem i))

  -- the records that there are
  pub record_given : (n : ℕ) → n < whole_records list → record_at c n ≡ listed list n
  record_given n l = item_tabulate (listed list) [] (whole_records list) n l

  pub twelve_given : (n : ℕ) → n < whole_records list → length (listed list n) ≡ 12
  twelve_given n l = length-take-le 12 (drop (12 * n) list) (rw length-drop (omega arith))

  module _ (whole : length list % 12 ≡ 0) (j : ℕ) where
    listed_byte_lem : (i : ℕ) → i < 510 → listed_byte list j i ≡ records_byte c j i
    listed_byte_lem i l = among (dec_lt i 480) (dec_lt (40 * j + i / 12) (whole_records list)) (dec_lt i 508) (ℕ_discrete i 508)
      where
        n : ℕ
        n = 40 * j + i / 12

        among : Dec (i < 480) → Dec (40 * j + i / 12 < whole_records list) → Dec (i < 508) → Dec (i ≡ 508) → listed_byte list j i ≡ records_byte c j i
        among (yes k) (yes m) _ _ =
            let at : 12 * (40 * j + i / 12) + i % 12 ≡ 480 * j + i = omega arith in
            rw (lt-ltb i 480 k)
            (sym (place_byte c j i k ∙ rw (record_given (40 * j + i / 12) m)
            (get_or-take 12 (drop (12 * (40 * j + i / 12)) list) (i % 12) 0 (omega arith) ∙ get_or-drop (12 * (40 * j + i / 12)) list (i % 12) 0 ∙ rw at refl)))
        among (yes k) (no m) _ _ =
            rw (lt-ltb i 480 k)
            (get_or-eq_default list 0 (omega arith)
            ∙ sym (place_byte c j i k ∙ rw (item_behind (listed list) [] (whole_records list) (40 * j + i / 12) (omega arith)) refl))
        among (no k) _ (yes m) _ = rw (le-ltb i 480 (omega arith), lt-ltb i 508 m) (sym (gap_byte c j i (omega arith) m))
        among (no k) _ (no m) (yes e) =
            let next : j + 1 ≡ suc j = omega arith in
            rw e (next ∙ sym (number_byte c j))
        among (no k) _ (no m) (no e) =
            let last : i ≡ 509 = omega arith in
            rw last (ap (λ (n : ℕ). records_in n j) (sym count_given) ∙ sym (count_byte c j))

    -- record block j + 1
    pub block_given : sealed_block (listed_byte list j) ≡ sealed_block (records_byte c j)
    block_given = sealed_block_same (listed_byte list j) (records_byte c j) listed_byte_lem
