-- No text of all records needs more bytes than are asked for, as every number has few digits.
use Rattle.std.specs.Prelude.{Option, Some, None}
use Prim.Native.Nat.{ℕ, zero, suc, ◌*◌, ◌<◌, ◌≤◌}
use native.Mathlib.Nat.{suc-mul}
use native.Mathlib.Omega.{arith}
use mathlib.Core.Bool.{Bool, true, false, cond}
use mathlib.Core.List.{[], ◌++◌}
use lib.ListN.{length, length-append}
use Rattle.words.specs.Sizes.{most_entities}
use Rattle.text.specs.Ascii.{space}
use Rattle.text.specs.Decimal.{decimal}
use Rattle.text.proofs.Decimal.{few_digits}
use Rattle.lines.specs.Numbered.{is_one}
use Rattle.lines.proofs.Fits.{end_few}
use Rattle.holder_lines.specs.Sizes.{most_records, record_line, holders_bytes}
use Rattle.holder_lines.specs.Text.{shelf_text, shelves_text, line_text, lines_text, wells, ills, holders_text}
use Rattle.holder_lines.proofs.Passes.{all_counted}

shelf_few : (w i : ℕ) → i < most_entities → length (shelf_text w i) ≤ 3
shelf_few w i l = by (is_one w i)
  where
    by : (b : Bool) → length (cond b (space ++ decimal (suc i)) []) ≤ 3
    by true = simp length-append (omega (arith, few_digits (suc i) 1 (omega arith)))
    by false = omega arith

shelves_few : (w n : ℕ) → n ≤ most_entities → length (shelves_text w n) ≤ 3 * n
unfolding shelves_text
shelves_few w zero l = omega arith
shelves_few w (suc n) l = rw length-append (omega (arith, shelves_few w n (omega arith), shelf_few w n (omega arith)))

line_few : (n : ℕ) (said : Option ℕ) → n ≤ most_records → length (line_text n said) ≤ record_line
line_few n (Some shelves) l =
    simp length-append (omega (arith, few_digits n 2 (omega arith), shelves_few shelves most_entities (omega arith)))
line_few n None l = simp length-append (omega (arith, few_digits n 2 (omega arith)))

module _ (said : ℕ → Option ℕ) where
  lines_few : (n : ℕ) → n ≤ most_records → length (lines_text said n) ≤ n * record_line
  unfolding lines_text
  lines_few zero l = omega arith
  lines_few (suc n) l =
      rw (length-append, suc-mul) (omega (arith, lines_few n (omega arith), line_few (suc n) (said (suc n)) l))

  pub text_few : (n : ℕ) → n ≤ most_records → length (holders_text said n) ≤ holders_bytes
  unfolding holders_text
  text_few n l =
      let all = all_counted said n in
      rw length-append (omega (arith, lines_few n l, end_few (wells said n) (ills said n) (omega arith) (omega arith)))
