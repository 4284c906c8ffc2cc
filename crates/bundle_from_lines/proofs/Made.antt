-- How the bundle of a text comes about: E, R and the marks are judged by the writer from a list without a record, then the text is read, and
-- its records are written. What each step answers is what the program's table says.
use Rattle.std.specs.Prelude.{Result, Ok, Err}
use Prim.Native.Nat.{ℕ, ◌*◌, ◌≤◌}
use native.Mathlib.Omega.{arith}
use mathlib.Core.Path.{◌≡◌, refl, ap, sym, subst, ◌∙◌}
use mathlib.Core.Logic.{inl, inr}
use mathlib.Core.List.{List, [], ◌++◌}
use lib.ListN.{length, take, drop, length-append}
use lib.Seq.{take_at}
use Rattle.rt0.specs.Credential.{Credential}
use Rattle.base.specs.declared.refusal.Refusal.{Refusal}
use Rattle.base.specs.Refused.{refusal_at}
use Rattle.base.specs.Refusals.{Clear, refused, passed}
use Rattle.base.proofs.Refusals.{due_number, due_clear, clear_both}
use Rattle.content.specs.Content.{Content, count, whole_records, content_from}
use Rattle.content.specs.Encode.{encode}
use Rattle.content.proofs.Written.{length_written, front_written}
use Rattle.content.proofs.Listed.{count_given}
use Rattle.writer.specs.Rows.{HeadWrong, list_rows, room_rows, write_rows}
use Rattle.writer.specs.Promise.{Writes}
use Rattle.writer.proofs.Tables.{list_clear, write_numbers}
use Rattle.letters.specs.Lines.{records_of, line_count}
use Rattle.letters.specs.Rows.{OutOfRange, read_rows}
use Rattle.letters.specs.Promise.{Letter, Stored, Reads}
use Rattle.letters.proofs.Texts.{text_count, records_size}
use Rattle.letters.proofs.Kept.{no_both, read_numbers}
use Rattle.letters.proofs.Clear.{clear_read}
use Rattle.letters.proofs.Listed.{count_back, records_right}
use Rattle.desk.specs.Answer.{Gives}
use Rattle.bundle_from_lines.specs.Prints.{text_rows, head_rows, BundleOf}
use Rattle.bundle_from_lines.proofs.Records.{content_is}

-- what a list without a record tells of E, R and the marks
module _ (E R : ℕ) (marks before after : List ℕ) (room : 512 ≤ length before) where
  no_record : Clear (list_rows E R [] ++ room_rows 0 (length before))
  no_record =
      clear_both (list_rows E R []) (room_rows 0 (length before)) (list_clear E R [] (λ i l. absurd (omega arith)))
      (λ (_, (_, many)). omega arith, (λ (_, (_, short)). omega arith, tt))

  pub head_refused : (w : Result ℕ (Refusal ℕ)) (number place : ℕ) → w ≡ Err (refusal_at number place) → Writes E R marks [] before w after → (text bundle : List ℕ)
      → Gives (head_rows E R marks text) (BundleOf E R marks text) bundle w
  head_refused w number place e h text bundle =
      subst (Gives (head_rows E R marks text) (BundleOf E R marks text) bundle) (sym e) (by (subst (λ (x : Result ℕ (Refusal ℕ)). Writes E R marks [] before x after) e h))
    where
      by : Writes E R marks [] before (Err (refusal_at number place)) after → Gives (head_rows E R marks text) (BundleOf E R marks text) bundle (Err (refusal_at number place))
      by (refused (inl (_, (_, cut))) _) = absurd (cut refl)
      by (refused (inr (_, inl (three, (zero, wrong)))) _) = refused (inl (three, (zero, wrong))) (omega arith)
      by (refused (inr (_, inr (_, d))) _) = absurd (due_clear (list_rows E R [] ++ room_rows 0 (length before)) _ _ no_record d)
      by (passed _ _ _ (size, _)) = absurd (omega arith)

-- .. whatever room there is
module _ (E R : ℕ) (marks before after : List ℕ) where
  pub head_right : (w : Result ℕ (Refusal ℕ)) (n : ℕ) → w ≡ Ok n → Writes E R marks [] before w after → HeadWrong E R marks → ⊥
  head_right w n e h wrong = by (subst (λ (x : Result ℕ (Refusal ℕ)). Writes E R marks [] before x after) e h)
    where
      by : Writes E R marks [] before (Ok n) after → ⊥
      by (refused d _) = omega (arith, due_number (write_rows E R marks [] (length before)) (write_numbers E R marks [] (length before)) 0 0 d)
      by (passed _ _ (_, (right, _)) _) = right (0, (refl, wrong))

-- .. where they are right: E and R are within their ranges
pub no_range : (E R : ℕ) (marks : List ℕ) → (HeadWrong E R marks → ⊥) → OutOfRange E R → ⊥
no_range E R marks right (inl e) = right (inl e)
no_range E R marks right (inr r) = right (inr (inl r))

-- and a text of which no row applies has at most 240 lines
pub few_lines : (E R : ℕ) (marks text : List ℕ) → (HeadWrong E R marks → ⊥) → Clear (text_rows E R text) → line_count text ≤ 240
few_lines E R marks text right (lines, (many, _)) =
    (clear_read E R text (12 * line_count text)
    (λ (_, (_, out)). no_range E R marks right out, (lines, (many, (λ (_, (_, short)). omega arith, tt))))).few

pub head_passed : (E R : ℕ) (marks text bundle : List ℕ) (w : Result ℕ (Refusal ℕ)) → (HeadWrong E R marks → ⊥) → Gives (text_rows E R text) (BundleOf E R marks text) bundle w
    → Gives (head_rows E R marks text) (BundleOf E R marks text) bundle w
head_passed E R marks text bundle w right (refused d low) = refused (inr (λ (_, (_, wrong)). right wrong, d)) low
head_passed E R marks text bundle w right (passed z p clear front) = passed z p (λ (_, (_, wrong)). right wrong, clear) front

-- what stands at the front of a buffer
front_is : (bytes before after : List ℕ) (n : ℕ) → Stored bytes before (Ok n) after → take n after ≡ bytes
front_is bytes before after n (e, f) =
    let size : n ≡ length bytes = cc e in
    rw (f, size) (take_at bytes (drop (length bytes) before) (length bytes) refl)

-- the records of a letter of at most 240 lines are written, whatever the buffer held
module _ (E R : ℕ) (marks text : List ℕ) (right : HeadWrong E R marks → ⊥) (letter : Letter E R text) (few : length letter.credentials ≤ 240)
    (clear : Clear (text_rows E R text)) (bundle made : List ℕ) (long : 3584 ≤ length bundle) where
  abbrev cs : List Credential
  cs = letter.credentials

  abbrev c : Content
  c = content_from E R marks (records_of cs)

  many : count c ≡ length cs
  many = count_given E R marks (records_of cs) ∙ count_back E R cs letter.valid

  right_list : Clear (write_rows E R marks (records_of cs) (length bundle))
  right_list = (
    λ (_, (_, cut)). cut (omega (arith, records_size E R cs letter.valid)),
    (
      λ (_, (_, wrong)). right wrong,
      clear_both (list_rows E R (records_of cs)) (room_rows (whole_records (records_of cs)) (length bundle))
          (list_clear E R (records_of cs) (records_right E R cs letter.valid))
          (λ (_, (_, above)). omega (arith, count_back E R cs letter.valid), (λ (_, (_, short)). omega (arith, count_back E R cs letter.valid), tt)),
    ),
  )

  records_made : (answer : Result ℕ (Refusal ℕ)) → Writes E R marks (records_of cs) bundle answer made → Gives (text_rows E R text) (BundleOf E R marks text) made answer
  records_made answer (refused d _) = absurd (due_clear (write_rows E R marks (records_of cs) (length bundle)) _ _ right_list d)
  records_made (Err why) (passed _ _ _ (size, _)) = absurd (omega arith)
  records_made (Ok n) (passed _ _ _ (size, stored)) =
      passed refl refl clear
      record {
        size = n;
        answer = refl;
        inside = rw stored (omega (arith, length_written c bundle (omega (arith, many)), many));
        given =
            record {
              letter = letter;
              bytes = rw (stored, size) (front_written c bundle ∙ ap encode (content_is E R cs letter.valid marks));
            };
      }

module _ (E R : ℕ) (marks text : List ℕ) (right : HeadWrong E R marks → ⊥) (before after : List ℕ) (room : 2880 ≤ length before) where
  -- the text is refused
  pub text_refused : (w : Result ℕ (Refusal ℕ)) (number place : ℕ) → w ≡ Err (refusal_at number place) → Reads E R text before w after → (bundle : List ℕ)
      → Gives (text_rows E R text) (BundleOf E R marks text) bundle w
  text_refused w number place e h bundle =
      subst (Gives (text_rows E R text) (BundleOf E R marks text) bundle) (sym e) (by (subst (λ (x : Result ℕ (Refusal ℕ)). Reads E R text before x after) e h))
    where
      by : Reads E R text before (Err (refusal_at number place)) after → Gives (text_rows E R text) (BundleOf E R marks text) bundle (Err (refusal_at number place))
      by (refused (inl (_, (_, out))) _) = absurd (no_range E R marks right out)
      by (refused (inr (_, inl (n, (k, at, first)))) _) = refused (inl (n, (k, at, first))) (omega (arith, first.among))
      by (refused (inr (_, inr (lines, inl (n, (at, many))))) _) = refused (inr (lines, inl (n, (at, many)))) (omega arith)
      by (refused (inr (_, inr (lines, inr (many, inl (_, (_, short)))))) _) = absurd (omega (arith, few_lines E R marks text right (lines, (many, tt))))
      by (refused (inr (_, inr (_, inr (_, inr (_, none))))) _) = absurd none
      by (passed _ _ _ (_, (f, _))) = no_both (Err (refusal_at number place)) _ number place f refl

  -- it is read: so many bytes of records are there
  pub text_inside : (w : Result ℕ (Refusal ℕ)) (n : ℕ) → w ≡ Ok n → Reads E R text before w after → n ≤ length after
  text_inside w n e h = by (subst (λ (x : Result ℕ (Refusal ℕ)). Reads E R text before x after) e h)
    where
      by : Reads E R text before (Ok n) after → n ≤ length after
      by (refused d _) = absurd (omega (arith, due_number (read_rows E R text (length before)) (read_numbers E R text (length before)) 0 0 d))
      by (passed _ _ _ (letter, (f, stored))) =
          let size : n ≡ length (records_of letter.credentials) = cc f in
          rw (stored, length-append) (omega arith)

  -- and they are written
  pub text_made : (w : Result ℕ (Refusal ℕ)) (n : ℕ) → w ≡ Ok n → Reads E R text before w after → (bundle made : List ℕ) (answer : Result ℕ (Refusal ℕ)) → 3584 ≤ length bundle
      → Writes E R marks (take n after) bundle answer made → Gives (text_rows E R text) (BundleOf E R marks text) made answer
  text_made w n e h bundle made answer long wrote = by (subst (λ (x : Result ℕ (Refusal ℕ)). Reads E R text before x after) e h)
    where
      by : Reads E R text before (Ok n) after → Gives (text_rows E R text) (BundleOf E R marks text) made answer
      by (refused d _) = absurd (omega (arith, due_number (read_rows E R text (length before)) (read_numbers E R text (length before)) 0 0 d))
      by (passed _ _ (_, (wrong, (many, _))) (letter, stored)) =
          let list = front_is (records_of letter.credentials) before after n stored in
          let count : line_count text ≡ length letter.credentials = ap line_count letter.text_is ∙ text_count letter.credentials in
          records_made E R marks text right letter (omega (arith, count, few_lines E R marks text right (wrong, (many, tt)))) (wrong, (many, tt)) bundle made long answer
          (subst (λ (l : List ℕ). Writes E R marks l bundle answer made) list wrote)
