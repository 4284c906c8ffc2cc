-- From what was judged and what was stored to what reading and writing promise.
use Rattle.std.specs.Prelude.{Result, Ok, Err}
use Prim.Native.Nat.{ℕ, ◌*◌, ◌<◌}
use native.Mathlib.Omega.{arith}
use native.Mathlib.Decide.{dec_lt}
use mathlib.Core.Path.{◌≡◌, refl, ap, subst, ◌∙◌}
use mathlib.Core.List.{List}
use lib.ListN.{length}
use Rattle.base.specs.declared.refusal.Refusal.{Refusal}
use Rattle.base.specs.Refused.{refusal_at, number_of}
use Rattle.base.specs.Refusals.{AllNumbered, AllOnePlace, refused, passed}
use Rattle.base.proofs.Refusals.{due_number, at_place, zero_place, from_one_place, one_place_both, numbered_both}
use Rattle.text.specs.Written.{Wrote as WroteFrom}
use Rattle.text.proofs.Written.{wrote_text}
use Rattle.writer.specs.Rows.{list_rows}
use Rattle.writer.proofs.Tables.{list_places, list_numbers}
use Rattle.letters.specs.Lines.{text_of, records_of, credentials_in, lines_of, line_count, candidates_of}
use Rattle.letters.specs.Rows.{FirstWrong, read_rows, text_rows, write_rows}
use Rattle.letters.specs.Promise.{Says, JudgedText, Reads, Writes}
use Rattle.letters.proofs.Reading.{in_range}
use Rattle.letters.proofs.Clear.{ReadClear, clear_read, WriteClear, clear_write}
use Rattle.letters.proofs.Texts.{text_count, records_size}
use Rattle.letters.proofs.Filling.{candidates_are}

-- no answer is both
pub no_both : {A : Type 0} (r : Result ℕ (Refusal ℕ)) (n number place : ℕ) → r ≡ Ok n → r ≡ Err (refusal_at number place) → A
no_both r n number place e f = let z : ◌≡◌ {A = ℕ} 0 1 = cc in absurd (omega arith)

module _ (E R : ℕ) (text : List ℕ) (size : ℕ) where
  first_place : (p q : ℕ) → FirstWrong E R text p → FirstWrong E R text q → p ≡ q
  first_place p q a b = by (dec_lt p q) (dec_lt q p)
    where
      by : Dec (p < q) → Dec (q < p) → p ≡ q
      by (yes l) _ = absurd (a.wrong (b.before p l))
      by (no l) (yes m) = absurd (b.wrong (a.before q m))
      by (no l) (no m) = omega arith

  pub read_places : AllOnePlace (read_rows E R text size)
  read_places = (zero_place _, (from_one_place _ first_place, (at_place 241 _, (zero_place _, tt))))

  pub read_numbers : AllNumbered (read_rows E R text size)
  read_numbers = (omega arith, (omega arith, (omega arith, (omega arith, tt))))

module _ (E R : ℕ) (list : List ℕ) (size : ℕ) where
  pub write_places : AllOnePlace (write_rows E R list size)
  write_places = (zero_place _, (zero_place _, one_place_both (list_rows E R list) (text_rows list size) (list_places E R list) (at_place 241 _, (zero_place _, tt))))

  pub write_numbers : AllNumbered (write_rows E R list size)
  write_numbers = (omega arith, (omega arith, numbered_both (list_rows E R list) (text_rows list size) (list_numbers E R list) (omega arith, (omega arith, tt))))

-- Reading.

module _ (E R : ℕ) (text before : List ℕ) (r : Result ℕ (Refusal ℕ)) (h : JudgedText (read_rows E R text (length before)) E R text r) where
  pub read_handed : (number place : ℕ) → r ≡ Err (refusal_at number place) → Reads E R text before r before
  read_handed number place e = by h
    where
      by : JudgedText (read_rows E R text (length before)) E R text r → Reads E R text before r before
      by (refused d _) = refused d refl
      by (passed _ _ _ (f, _)) = no_both r _ number place f e

  pub read_filled : (n : ℕ) → r ≡ Ok n → (after : List ℕ) (place : ℕ) → WroteFrom before 0 (candidates_of (lines_of text)) after place
      → Reads E R text before r after
  read_filled n e after place w = by h
    where
      by : JudgedText (read_rows E R text (length before)) E R text r → Reads E R text before r after
      by (refused d _) = absurd (omega (arith, due_number (read_rows E R text (length before)) (read_numbers E R text (length before)) _ _ d, ap number_of e))
      by (passed z p clear (f, letter)) =
          let ready : ReadClear E R text (length before) = clear_read E R text (length before) clear in
          let (a, b) = in_range E R ready.within in
          let cs = letter.credentials in
          let count : line_count text ≡ length cs = ap line_count letter.text_is ∙ text_count cs in
          let size : length (records_of cs) ≡ 12 * length cs = records_size E R cs letter.valid in
          let bytes : candidates_of (lines_of text) ≡ records_of cs =
          ap (λ (t : List ℕ). candidates_of (lines_of t)) letter.text_is ∙ candidates_are E R a b cs letter.valid in
          let (stored, _) = wrote_text (subst (λ (l : List ℕ). WroteFrom before 0 l after place) bytes w) (omega (arith, ready.room)) in
          let same : 12 * line_count text ≡ length (records_of cs) = omega arith in
          passed z p clear (letter, (f ∙ ap Ok same, stored))

-- Writing.

module _ (E R : ℕ) (list before : List ℕ) (r : Result ℕ (Refusal ℕ)) (h : Says (write_rows E R list (length before)) r (length (text_of (credentials_in list)))) where
  pub write_handed : (number place : ℕ) → r ≡ Err (refusal_at number place) → Writes E R list before r before
  write_handed number place e = by h
    where
      by : Says (write_rows E R list (length before)) r (length (text_of (credentials_in list))) → Writes E R list before r before
      by (refused d _) = refused d refl
      by (passed _ _ _ f) = no_both r _ number place f e

  pub write_filled : (n : ℕ) → r ≡ Ok n → (after : List ℕ) (place : ℕ) → WroteFrom before 0 (text_of (credentials_in list)) after place
      → Writes E R list before r after
  write_filled n e after place w = by h
    where
      by : Says (write_rows E R list (length before)) r (length (text_of (credentials_in list))) → Writes E R list before r after
      by (refused d _) = absurd (omega (arith, due_number (write_rows E R list (length before)) (write_numbers E R list (length before)) _ _ d, ap number_of e))
      by (passed z p clear said) =
          let ready : WriteClear E R list (length before) = clear_write E R list (length before) clear in
          let (stored, _) = wrote_text w ready.room in
          passed z p clear (said, stored)
