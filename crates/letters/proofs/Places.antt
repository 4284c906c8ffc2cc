-- A refusal of letters has a number, and its place is bounded: by 241 for reading, and by the records of the list too for writing. What was
-- written is bounded by 240 records and their lines.
use Rattle.std.specs.Prelude.{Ok, Err}
use Prim.Native.Nat.{ℕ, ◌+◌, ◌*◌, ◌<◌, ◌≤◌}
use native.Mathlib.Omega.{arith}
use mathlib.Core.Path.{◌≡◌, refl, ap, ◌∙◌}
use mathlib.Core.Logic.{inl, inr}
use mathlib.Core.List.Memᴰ
use mathlib.Core.List.{List, [], ◌∷◌}
use lib.ListN.{length, length-append}
use Rattle.rt0.specs.Credential.{Credential, AllValid}
use Rattle.base.specs.Refused.{refusal_at}
use Rattle.base.specs.Refusals.{FromOne, Due, refused, passed}
use Rattle.base.proofs.Refusals.{due_number}
use Rattle.records.specs.Bytes.{credential_in}
use Rattle.content.specs.Content.{listed, whole_records}
use Rattle.content.proofs.Tabulated.{length_tabulate}
use Rattle.writer.specs.Rows.{LowestListed}
use Rattle.spelling.specs.Line.{line_of}
use Rattle.spelling.proofs.Lengths.{line_short}
use Rattle.letters.specs.Lines.{text_of, records_of, credentials_in, line_count}
use Rattle.letters.specs.Rows.{read_rows, write_rows}
use Rattle.letters.specs.Promise.{Reads, Writes}
use Rattle.letters.proofs.Reading.{in_range}
use Rattle.letters.proofs.Clear.{clear_read, WriteClear, clear_write}
use Rattle.letters.proofs.Texts.{text_count, records_size}
use Rattle.letters.proofs.Listed.{valid_listed}
use Rattle.letters.proofs.Kept.{no_both, read_numbers, write_numbers}

-- the text of valid credentials has at most 39 bytes for each, over entities and names of one digit or two
pub text_short : (E R : ℕ) → E < 100 → R < 100 → (cs : List Credential) → AllValid E R cs → length (text_of cs) ≤ 39 * length cs
unfolding text_of
text_short E R a b [] v = omega arith
text_short E R a b (c ∷ cs) v =
    rw (length-append (line_of c) (text_of cs))
    (omega (arith, line_short E R a b c (v c (Memᴰ.head refl)), text_short E R a b cs (λ d m. v d (Memᴰ.tail m))))

module _ (E R : ℕ) (text before after : List ℕ) where
  read_due : (number place : ℕ) → Due (read_rows E R text (length before)) number place → place ≤ 241
  read_due number place (inl (_, (z, _))) = omega arith
  read_due number place (inr (_, inl (_, (k, e, first)))) = omega (arith, first.among)
  read_due number place (inr (_, inr (_, inl (_, (z, _))))) = omega arith
  read_due number place (inr (_, inr (_, inr (_, inl (_, (z, _)))))) = omega arith
  read_due number place (inr (_, inr (_, inr (_, inr (_, none))))) = absurd none

  pub read_place : (number place : ℕ) → Reads E R text before (Err (refusal_at number place)) after → (1 ≤ number) × (place ≤ 241)
  read_place number place (refused d _) =
      (due_number (read_rows E R text (length before)) (read_numbers E R text (length before)) number place d, read_due number place d)
  read_place number place (passed _ _ _ (_, (e, _))) = no_both (Err (refusal_at number place)) _ number place e refl

  pub read_length : (n : ℕ) → Reads E R text before (Ok n) after → n ≤ 2880
  read_length n (refused d _) = absurd (omega (arith, due_number (read_rows E R text (length before)) (read_numbers E R text (length before)) _ _ d))
  read_length n (passed _ _ clear (letter, (e, _))) =
      let cs = letter.credentials in
      let size : n ≡ length (records_of cs) = cc in
      let count : line_count text ≡ length cs = ap line_count letter.text_is ∙ text_count cs in
      omega (arith, size, count, records_size E R cs letter.valid, (clear_read E R text (length before) clear).few)

module _ (E R : ℕ) (list before after : List ℕ) where
  listed_place : (k p : ℕ) → FromOne (LowestListed E R list k) p → p ≤ 241 + whole_records list
  listed_place k p (j, e, a) = omega (arith, e, a.lowest_wrong.below)

  write_due : (number place : ℕ) → Due (write_rows E R list (length before)) number place → place ≤ 241 + whole_records list
  write_due number place (inl (_, (z, _))) = omega arith
  write_due number place (inr (_, inl (_, (z, _)))) = omega arith
  write_due number place (inr (_, inr (_, inl (_, a)))) = listed_place 0 place a
  write_due number place (inr (_, inr (_, inr (_, inl (_, a))))) = listed_place 1 place a
  write_due number place (inr (_, inr (_, inr (_, inr (_, inl (_, a)))))) = listed_place 2 place a
  write_due number place (inr (_, inr (_, inr (_, inr (_, inr (_, inl (_, a))))))) = listed_place 3 place a
  write_due number place (inr (_, inr (_, inr (_, inr (_, inr (_, inr (_, inl (_, a)))))))) = listed_place 4 place a
  write_due number place (inr (_, inr (_, inr (_, inr (_, inr (_, inr (_, inr (_, inl (_, (z, _)))))))))) = omega arith
  write_due number place (inr (_, inr (_, inr (_, inr (_, inr (_, inr (_, inr (_, inr (_, inl (_, (z, _))))))))))) = omega arith
  write_due number place (inr (_, inr (_, inr (_, inr (_, inr (_, inr (_, inr (_, inr (_, inr (_, none)))))))))) = absurd none

  pub write_place : (number place : ℕ) → Writes E R list before (Err (refusal_at number place)) after → (1 ≤ number) × (place ≤ 241 + whole_records list)
  write_place number place (refused d _) =
      (due_number (write_rows E R list (length before)) (write_numbers E R list (length before)) number place d, write_due number place d)
  write_place number place (passed _ _ _ (e, _)) = no_both (Err (refusal_at number place)) _ number place e refl

  pub write_length : (n : ℕ) → Writes E R list before (Ok n) after → n ≤ 9360
  write_length n (refused d _) = absurd (omega (arith, due_number (write_rows E R list (length before)) (write_numbers E R list (length before)) _ _ d))
  write_length n (passed _ _ clear (said, _)) =
      let ready : WriteClear E R list (length before) = clear_write E R list (length before) clear in
      let (few_entities, few_names) = in_range E R ready.within in
      let size : n ≡ length (text_of (credentials_in list)) = cc in
      let count : length (credentials_in list) ≡ whole_records list = length_tabulate (λ k. credential_in (listed list k)) (whole_records list) in
      omega (
        arith,
        size,
        count,
        text_short E R few_entities few_names (credentials_in list) (valid_listed E R list ready.right),
        ready.few,
      )
