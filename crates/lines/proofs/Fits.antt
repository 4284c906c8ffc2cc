-- No text needs more bytes than are asked for, as every number has few digits; and there are no more lines than keys that are passed.
use Prim.Native.Nat.{ℕ, zero, suc, ◌+◌, ◌*◌, ◌/◌, ◌%◌, ◌^◌, ◌<◌, ◌≤◌}
use native.Mathlib.Nat.{suc-mul}
use native.Mathlib.Omega.{arith}
use mathlib.Core.Bool.{Bool, true, false}
use mathlib.Core.List.{List}
use lib.ListN.{length, length-append}
use Rattle.words.specs.Sizes.{most_entities, width, table_words}
use Rattle.text.proofs.Decimal.{few_digits, five_digits}
use Rattle.lines.specs.Right.{Mark, SURE, MAYBE, count}
use Rattle.lines.specs.Text.{person_text, role_text, mark_text, lines_text, end_text, list_text}
use Rattle.lines.specs.Sizes.{mark_bytes, end_line, member_line, role_line}
use Rattle.lines.specs.Numbered.{line_for, numbered, role_at}
use Rattle.lines.proofs.Growing.{count_both, lines_both}

mark_few : (m : Mark) → length (mark_text m) ≤ mark_bytes
mark_few SURE = omega arith
mark_few MAYBE = omega arith

pub end_few : (sure maybe : ℕ) → sure < 2 ^ 16 → maybe < 2 ^ 16 → length (end_text sure maybe) ≤ end_line
end_few sure maybe s m = simp length-append (omega (arith, five_digits sure s, five_digits maybe m))

module _ {K : Type 0} where
  one_few : (m : Mark) (k : K) (sure possible : Bool) → count m (line_for k sure possible) ≤ 1
  unfolding count
  one_few SURE k true possible = omega arith
  one_few MAYBE k true possible = omega arith
  one_few SURE k false true = omega arith
  one_few MAYBE k false true = omega arith
  one_few m k false false = omega arith

  module _ (key : ℕ → K) (sure possible : ℕ → Bool) where
    -- no more lines than keys
    pub count_few : (m : Mark) (n : ℕ) → count m (numbered key sure possible n) ≤ n
    unfolding numbered count
    count_few m zero = omega arith
    count_few m (suc n) =
        rw (count_both m (numbered key sure possible n) (line_for (key n) (sure n) (possible n)))
        (omega (arith, count_few m n, one_few m (key n) (sure n) (possible n)))

    module _ (key_text : K → List ℕ) (most : ℕ) where
      line_few : (k : K) (s p : Bool) → length (key_text k) + mark_bytes ≤ most → length (lines_text key_text (line_for k s p)) ≤ most
      unfolding lines_text
      line_few k true p h = simp length-append (omega (arith, mark_few SURE))
      line_few k false true h = simp length-append (omega (arith, mark_few MAYBE))
      line_few k false false h = omega arith

      lines_few : (n : ℕ) → ((i : ℕ) → i < n → length (key_text (key i)) + mark_bytes ≤ most)
          → length (lines_text key_text (numbered key sure possible n)) ≤ n * most
      unfolding numbered lines_text
      lines_few zero h = omega arith
      lines_few (suc n) h =
          let before : length (lines_text key_text (numbered key sure possible n)) ≤ n * most = lines_few n (λ i l. h i (omega arith)) in
          let last = line_few (key n) (sure n) (possible n) (h n (omega arith)) in
          rw (lines_both key_text (numbered key sure possible n) (line_for (key n) (sure n) (possible n)), length-append, suc-mul) (omega (arith, before, last))

      pub text_few : (n : ℕ) → n < 2 ^ 16 → ((i : ℕ) → i < n → length (key_text (key i)) + mark_bytes ≤ most)
          → length (list_text key_text (numbered key sure possible n)) ≤ n * most + end_line
      unfolding list_text
      text_few n small h =
          let ends = end_few _ _ (lower SURE) (lower MAYBE) in
          rw length-append (omega (arith, lines_few n h, ends))
        where
          lower : (m : Mark) → count m (numbered key sure possible n) < 2 ^ 16
          lower m = omega (arith, count_few m n)

-- the longest lines
pub person_few : (i : ℕ) → i < most_entities → length (person_text (suc i)) + mark_bytes ≤ member_line
person_few i l = omega (arith, few_digits (suc i) 1 (omega arith))

pub role_few : (i : ℕ) → i < table_words → length (role_text (role_at width i)) + mark_bytes ≤ role_line
role_few i l =
    simp length-append (omega (arith, few_digits (suc (i / width)) 1 (omega arith), few_digits (suc (i % width)) 1 (omega arith)))
