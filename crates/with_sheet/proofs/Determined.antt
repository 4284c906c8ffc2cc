-- What is promised with a sheet determines as much as what is promised without: of the tables everything, and of the search everything but which
-- lines a written slip has and how many.
use Rattle.std.specs.Prelude.{Result}
use Prim.Native.Nat.{ℕ}
use native.Mathlib.Omega.{arith}
use mathlib.Core.List.{List, [], ◌∷◌}
use Rattle.base.specs.declared.refusal.Refusal.{Refusal}
use Rattle.base.specs.Refusals.{Row, AllOnePlace, AllNumbered}
use Rattle.base.proofs.Refusals.{clear_first, one_place_both, numbered_both, zero_place}
use Rattle.bundle.specs.declared.question.Question.{Question}
use Rattle.bundle.specs.Layout.{names_of}
use Rattle.bundle.specs.Rows.{reader_rows}
use Rattle.bundle.specs.Question.{question_row}
use Rattle.bundle.proofs.Refusals.{reader_places, reader_numbers}
use Rattle.sheet.specs.Sheet.{sheet_row}
use Rattle.answers.specs.Answer.{Outcome}
use Rattle.tables.specs.declared.Filled.{Filled}
use Rattle.tables.specs.Promise.{Tables, short_row}
use Rattle.tables.proofs.Determined.{Same, judged_equal}
use Rattle.search.specs.Promise.{Lent, lent_row}
use Rattle.search.specs.Agreement.{Agreement}
use Rattle.search.proofs.Determined.{judged_agree}
use Rattle.with_sheet.specs.Open.{open_by_sheet}
use Rattle.with_sheet.specs.Promise.{rows_with, SheetTables, SheetSearch}

module _ (bytes sheet : List ℕ) where
  module _ (later : List Row) where
    -- the sheet's row, and these
    abbrev behind : List Row
    behind = sheet_row (names_of bytes) sheet ∷ later

    places : AllOnePlace later → AllOnePlace (rows_with bytes sheet later)
    places s = one_place_both (reader_rows bytes) behind (reader_places bytes) (zero_place _, s)

    numbers : AllNumbered later → AllNumbered (rows_with bytes sheet later)
    numbers s = numbered_both (reader_rows bytes) behind (reader_numbers bytes) (omega arith, s)

  pub sheet_tables_determined : (before after_one after_two : Tables) (one two : Result Filled (Refusal ℕ)) → SheetTables bytes sheet before after_one one
      → SheetTables bytes sheet before after_two two → Same one after_one two after_two
  sheet_tables_determined before after_one after_two one two =
      let later = short_row before ∷ [] in
      judged_equal (open_by_sheet sheet bytes) bytes before after_one after_two (rows_with bytes sheet later)
      (places later (zero_place _, tt)) (numbers later (omega arith, tt)) (clear_first (reader_rows bytes) (behind later)) one two

  pub sheet_search_determines : (q : Question) (before after_one after_two : Lent) (one two : Outcome)
      → SheetSearch bytes sheet q before after_one one → SheetSearch bytes sheet q before after_two two → Agreement one after_one two after_two
  sheet_search_determines q before after_one after_two one two =
      let later = question_row bytes q ∷ lent_row before ∷ [] in
      judged_agree (open_by_sheet sheet bytes) bytes q before after_one after_two one two (rows_with bytes sheet later)
      (places later (zero_place _, (zero_place _, tt)))
