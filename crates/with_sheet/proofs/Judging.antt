-- The sheet's row between the reader's and the others: a right sheet changes no refusal; with a wrong one the reader's refusal is due, or 15.
use Rattle.std.specs.Prelude.{Result, Ok, Err}
use Prim.Native.Nat.{ℕ}
use mathlib.Core.Path.{◌≡◌, refl, sym, ◌∙◌}
use mathlib.Core.Bool.{Bool, true, false, true≢false}
use mathlib.Core.Logic.{◌↔◌, inl}
use mathlib.Core.List.{List, [], ◌∷◌}
use Rattle.base.specs.declared.refusal.Refusal.{Refusal}
use Rattle.base.specs.Refused.{refusal_at}
use Rattle.base.specs.Refusals.{Row, Judged, refused}
use Rattle.base.proofs.Refusals.{due_first, due_later}
use Rattle.base.proofs.Judging.{judged_between}
use Rattle.bundle.specs.declared.question.Question.{Question}
use Rattle.bundle.specs.declared.read.Sizes.{Sizes}
use Rattle.bundle.specs.Edition.{most_names}
use Rattle.bundle.specs.Layout.{names_of}
use Rattle.bundle.specs.Rows.{reader_rows, Reads}
use Rattle.bundle.specs.Question.{question_row}
use Rattle.bundle.proofs.Refusals.{reads_accepted}
use Rattle.bundle.proofs.Determined.{reads_refused}
use Rattle.sheet.specs.Sheet.{RightSheet, sheet_row}
use Rattle.answers.specs.Answer.{Outcome, refusal}
use Rattle.tables.specs.declared.Filled.{Filled}
use Rattle.tables.specs.Open.{open_names}
use Rattle.tables.specs.Promise.{Tables, short_row, TablesRefused, TablesWith}
use Rattle.search.specs.Promise.{Lent, lent_row, RefusedWith, PromiseWith}
use Rattle.with_sheet.specs.Open.{open_by_sheet, loose_word}
use Rattle.with_sheet.specs.Promise.{rows_with, SheetTables, SheetSearch}
use Rattle.with_sheet.proofs.Within.{tables_within, promise_within}
use Rattle.with_sheet.proofs.Loosened.{loosened}

module _ (bytes sheet : List ℕ) (later : List Row) {Kept Given : Type 0} (kept : Kept) where
  pub reader_refused : (n p : ℕ) → Reads bytes (Err (refusal_at n p)) → Judged (rows_with bytes sheet later) n p Kept Given
  reader_refused n p r = refused (due_first (reader_rows bytes) (sheet_row (names_of bytes) sheet ∷ later) n p (reads_refused bytes n p r)) kept

  pub sheet_refused : (s : Sizes) → Reads bytes (Ok s) → (RightSheet (names_of bytes) sheet → ⊥)
      → Judged (rows_with bytes sheet later) 15 0 Kept Given
  sheet_refused s r wrong =
      refused
      (due_later (reader_rows bytes) (sheet_row (names_of bytes) sheet ∷ later) 15 0 (reads_accepted bytes s r).clear (inl (refl, (refl, wrong))))
      kept

module _ (bytes sheet : List ℕ) (before : Tables) where
  abbrev untouched : (n p : ℕ) → TablesRefused before before (Err (refusal_at n p))
  untouched n p = record { sizes = refl; rounds = refl; untouched = refl }

  pub tables_refused : (n p : ℕ) → Reads bytes (Err (refusal_at n p)) → SheetTables bytes sheet before before (Err (refusal_at n p))
  tables_refused n p r = reader_refused bytes sheet (short_row before ∷ []) (untouched n p) n p r

  pub tables_wrong_lem : (s : Sizes) → Reads bytes (Ok s) → (RightSheet (names_of bytes) sheet → ⊥)
      → SheetTables bytes sheet before before (Err (refusal_at 15 0))
  tables_wrong_lem s r wrong = sheet_refused bytes sheet (short_row before ∷ []) (untouched 15 0) s r wrong

module _ (bytes sheet : List ℕ) (q : Question) (before : Lent) where
  abbrev unwritten : (n p : ℕ) → RefusedWith before before (refusal n p)
  unwritten n p = record { outcome = refl; untouched = refl }

  pub search_refused : (n p : ℕ) → Reads bytes (Err (refusal_at n p)) → SheetSearch bytes sheet q before before (refusal n p)
  search_refused n p r = reader_refused bytes sheet (question_row bytes q ∷ lent_row before ∷ []) (unwritten n p) n p r

  pub search_wrong : (s : Sizes) → Reads bytes (Ok s) → (RightSheet (names_of bytes) sheet → ⊥)
      → SheetSearch bytes sheet q before before (refusal 15 0)
  search_wrong s r wrong = sheet_refused bytes sheet (question_row bytes q ∷ lent_row before ∷ []) (unwritten 15 0) s r wrong

-- what the test of a sheet says of it
module _ {found : Bool} {R : ℕ} {sheet : List ℕ} (tells : (found ≡ true) ↔ RightSheet R sheet) where
  pub not_right : found ≡ false → RightSheet R sheet → ⊥
  not_right left right = true≢false (sym (tells.1 right) ∙ left)

module _ (bytes sheet : List ℕ) (right : RightSheet (names_of bytes) sheet) (names : ℕ) (e : names ≡ loose_word sheet most_names) where
  pub tables_judged : (before after : Tables) (o : Result Filled (Refusal ℕ)) → TablesWith (open_names names bytes) bytes before after o
      → SheetTables bytes sheet before after o
  tables_judged before after o p =
      judged_between (reader_rows bytes) (short_row before ∷ []) (sheet_row (names_of bytes) sheet) (λ (_, (_, wrong)). wrong right)
      (tables_within bytes (open_names (loose_word sheet most_names) bytes) (open_by_sheet sheet bytes) (loosened sheet bytes) before after o (rw e at p))

  pub search_judged : (q : Question) (before after : Lent) (o : Outcome) → PromiseWith (open_names names bytes) bytes q before after o
      → SheetSearch bytes sheet q before after o
  search_judged q before after o p =
      judged_between (reader_rows bytes) (question_row bytes q ∷ lent_row before ∷ []) (sheet_row (names_of bytes) sheet)
      (λ (_, (_, wrong)). wrong right)
      (promise_within bytes (open_names (loose_word sheet most_names) bytes) (open_by_sheet sheet bytes) (loosened sheet bytes) q before after o (rw e at p))
