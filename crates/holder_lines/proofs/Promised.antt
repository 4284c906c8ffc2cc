-- The promise from the stages of a call: the reader's refusal, 15, 8, or the text of what is said of all records. And two calls that keep it for
-- the same bundle, sheet and memory give the same answer and leave the same bytes.
use Rattle.std.specs.Prelude.{Result, Ok, Err, Option}
use Rattle.base.specs.declared.refusal.Refusal.{Refusal}
use Rattle.base.specs.Refused.{refusal_at, number_of, place_of}
use Rattle.base.proofs.Refused.{refused_same}
use Prim.Native.Nat.{ℕ, zero, suc, ◌<◌, ◌≤◌}
use native.Mathlib.Omega.{arith}
use mathlib.Core.Path.{◌≡◌, refl, sym, ap, ap₂, ◌∙◌}
use mathlib.Core.Bool.{Bool, true, false}
use mathlib.Core.Logic.{◌⊎◌, inl, inr}
use mathlib.Core.List.{List, [], ◌∷◌, ◌++◌}
use lib.ListN.{length, drop, length-append}
use Rattle.base.specs.Refusals.{Row, AllOnePlace, AllNumbered, Applies, refused, passed}
use Rattle.base.proofs.Flags.{Tells, clash_flag}
use Rattle.base.proofs.Refusals.{zero_place, one_place_both, numbered_both, due_first, due_later, clear_both, judged_same, judged_given}
use Rattle.bundle.specs.declared.read.Sizes.{Sizes}
use Rattle.bundle.specs.Layout.{names_of, records_of}
use Rattle.bundle.specs.Rows.{reader_rows, Reads, Accepts}
use Rattle.bundle.proofs.Accepted.{accepted_contents}
use Rattle.bundle.proofs.Refusals.{reader_places, reader_numbers}
use Rattle.bundle.proofs.Determined.{reads_refused}
use Rattle.sheet.specs.Sheet.{RightSheet, sheet_row}
use Rattle.text.specs.Written.{Wrote}
use Rattle.text.proofs.Written.{wrote_text}
use Rattle.storage.proofs.Said.{record_said}
use Rattle.storage.proofs.Refusals.{record_same}
use Rattle.lists.specs.Promise.{short_row, length_of, ListRefused}
use Rattle.holder_lines.specs.Sizes.{holders_bytes}
use Rattle.holder_lines.specs.Text.{lines_text, wells, ills, holders_text, said_in}
use Rattle.holder_lines.specs.Promise.{HoldersGiven, HoldersLeft, holders_rows, HoldersPromise}
use Rattle.holder_lines.proofs.Fits.{text_few}

-- ---- one text

-- what is said of the first n numbers is all that the text depends on
module _ (one two : ℕ → Option ℕ) where
  abbrev Alike : ℕ → Type 0
  Alike n = (i : ℕ) → 1 ≤ i → i ≤ n → one i ≡ two i

  same_lines : (n : ℕ) → Alike n → lines_text one n ≡ lines_text two n
  unfolding lines_text
  same_lines zero h = refl
  same_lines (suc n) h = rw (same_lines n (λ i l m. h i l (omega arith)), h (suc n) (omega arith) (omega arith))

  same_wells : (n : ℕ) → Alike n → wells one n ≡ wells two n
  unfolding wells
  same_wells zero h = refl
  same_wells (suc n) h = rw (same_wells n (λ i l m. h i l (omega arith)), h (suc n) (omega arith) (omega arith))

  same_ills : (n : ℕ) → Alike n → ills one n ≡ ills two n
  unfolding ills
  same_ills zero h = refl
  same_ills (suc n) h = rw (same_ills n (λ i l m. h i l (omega arith)), h (suc n) (omega arith) (omega arith))

  same_text : (n : ℕ) → Alike n → holders_text one n ≡ holders_text two n
  unfolding holders_text
  same_text n h = rw (same_lines n h, same_wells n h, same_ills n h)

pub given_once : (bundle sheet one two : List ℕ) → HoldersGiven bundle sheet one → HoldersGiven bundle sheet two → one ≡ two
given_once bundle sheet one two g h =
    g.text
    ∙ same_text g.said h.said (records_of bundle) (λ i l m. record_same bundle sheet i (g.said i) (h.said i) (g.right i l m) (h.right i l m))
    ∙ sym h.text

-- no text is empty
pub some_text : (bundle sheet shown : List ℕ) → HoldersGiven bundle sheet shown → 1 ≤ length shown
unfolding holders_text
some_text bundle sheet shown g = rw g.text (simp length-append (omega arith))

module _ (bundle sheet before : List ℕ) where
  -- the rows behind the reader's
  abbrev later : List Row
  later = sheet_row (names_of bundle) sheet ∷ short_row holders_bytes before ∷ []

  pub holders_numbers : AllNumbered (holders_rows bundle sheet before)
  holders_numbers = numbered_both (reader_rows bundle) later (reader_numbers bundle) (omega arith, (omega arith, tt))

  pub holders_places : AllOnePlace (holders_rows bundle sheet before)
  holders_places = one_place_both (reader_rows bundle) later (reader_places bundle) (zero_place _, (zero_place _, tt))

  untouched : (n p : ℕ) → ListRefused before before (Err (refusal_at n p))
  untouched n p = record { none = refl; untouched = refl }

  -- ---- the stages

  pub reader_refused : (n p : ℕ) → Reads bundle (Err (refusal_at n p)) → HoldersPromise bundle sheet before before (Err (refusal_at n p))
  reader_refused n p r = refused (due_first (reader_rows bundle) later n p (reads_refused bundle n p r)) (untouched n p)

  module _ (s : Sizes) (h : Accepts bundle s) (found : Bool) (tells : Tells found (RightSheet s.names sheet)) where
    R : s.names ≡ names_of bundle
    R = cc h.said

    sheet_clear : found ≡ true → Applies (sheet_row (names_of bundle) sheet) → ⊥
    sheet_clear w (_, (_, wrong)) = wrong (rw R at (tells.0 w))

    pub sheet_refused : found ≡ false → HoldersPromise bundle sheet before before (Err (refusal_at 15 0))
    sheet_refused w =
        refused (due_later (reader_rows bundle) later 15 0 h.clear (inl (refl, (refl, λ r. clash_flag (tells.1 (rw R r)) w)))) (untouched 15 0)

    pub short_refused : found ≡ true → length before < holders_bytes → HoldersPromise bundle sheet before before (Err (refusal_at 8 0))
    short_refused w l =
        refused (due_later (reader_rows bundle) later 8 0 h.clear (inr (sheet_clear w, inl (refl, (refl, l))))) (untouched 8 0)

    pub text_given : found ≡ true → holders_bytes ≤ length before → {after : List ℕ} {r : ℕ}
        → Wrote before 0 (holders_text (said_in bundle sheet) s.records) after r → HoldersPromise bundle sheet before after (Ok r)
    text_given w room {after} {r} wrote =
        let N : s.records ≡ records_of bundle = cc h.said in
        let few = text_few (said_in bundle sheet) s.records (omega (arith, (accepted_contents bundle s h).records_most)) in
        let (text, size) = wrote_text wrote (omega arith) in
        passed refl refl
        (clear_both (reader_rows bundle) later h.clear (sheet_clear w, ((λ (_, (_, l)). omega arith), tt)))
        (record {
          shown = holders_text (said_in bundle sheet) s.records;
          given = record {
            said = said_in bundle sheet;
            right = λ n l m. record_said bundle sheet s h n l (omega arith) (said_in bundle sheet n) refl;
            text = ap (holders_text (said_in bundle sheet)) N;
          };
          written = text ∙ rw size;
          length_said = size;
        })

  -- ---- one answer

  no_number : (after : List ℕ) (n p : ℕ) → HoldersPromise bundle sheet before after (Err (refusal_at n p)) → n ≡ 0 → ⊥
  no_number after n p k z =
      let g = (judged_given (holders_rows bundle sheet before) holders_places holders_numbers k z).1 in
      omega (arith, some_text bundle sheet g.shown g.given, g.length_said)

  module _ (after_one after_two : List ℕ) where
    same_answer : (one two : Result ℕ (Refusal ℕ)) → HoldersPromise bundle sheet before after_one one → HoldersPromise bundle sheet before after_two two
        → number_of one ≡ number_of two → place_of one ≡ place_of two → length_of one ≡ length_of two → one ≡ two
    same_answer (Ok n) (Ok m) p q number place size = ap Ok size
    same_answer (Ok n) (Err why) p q number place size = absurd (no_number after_two why.number why.place q (sym number))
    same_answer (Err why) (Ok m) p q number place size = absurd (no_number after_one why.number why.place p number)
    same_answer (Err why) (Err other) p q number place size = refused_same _ _ number place

    same_left : (one two : Result ℕ (Refusal ℕ))
        → (ListRefused before after_one one × ListRefused before after_two two)
        ⊎ (HoldersLeft bundle sheet before after_one one × HoldersLeft bundle sheet before after_two two)
        → (length_of one ≡ length_of two) × (after_one ≡ after_two)
    same_left one two (inl (k, l)) = (k.none ∙ sym l.none, k.untouched ∙ sym l.untouched)
    same_left one two (inr (g, h)) =
        let shown = given_once bundle sheet g.shown h.shown g.given h.given in
        let size : length_of one ≡ length_of two = g.length_said ∙ ap length shown ∙ sym h.length_said in
        (size, g.written ∙ ap₂ (λ (l : List ℕ) (n : ℕ). l ++ drop n before) shown size ∙ sym h.written)

    pub holders_determined : (one two : Result ℕ (Refusal ℕ)) → HoldersPromise bundle sheet before after_one one
        → HoldersPromise bundle sheet before after_two two → (one ≡ two) × (after_one ≡ after_two)
    holders_determined one two p q =
        let (number, place, both) = judged_same (holders_rows bundle sheet before) holders_places p q in
        let (size, bytes) = same_left one two both in
        (same_answer one two p q number place size, bytes)
