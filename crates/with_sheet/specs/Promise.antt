-- What the tables and the search promise with a sheet: the same as without, where the roles that the sheet leaves open are open; and of the
-- refusals, the bundle's own, then 15 for the sheet, then 7 and 8 as without.
use Rattle.std.specs.Prelude.{ℕ, List, [], ◌∷◌, ◌++◌, Result}
use Rattle.base.specs.declared.refusal.Refusal.{Refusal}
use Rattle.base.specs.Refused.{number_of, place_of}
use Rattle.base.specs.Refusals.{Row, Judged}
use Rattle.bundle.specs.declared.question.Question.{Question}
use Rattle.bundle.specs.Layout.{names_of}
use Rattle.bundle.specs.Rows.{reader_rows}
use Rattle.bundle.specs.Held.{holding_with}
use Rattle.bundle.specs.Question.{question_row}
use Rattle.sheet.specs.Sheet.{sheet_row}
use Rattle.answers.specs.Answer.{Outcome}
use Rattle.tables.specs.declared.Filled.{Filled}
use Rattle.tables.specs.Promise.{Tables, short_row, TablesRefused, TablesGiven}
use Rattle.search.specs.Promise.{Lent, lent_row, RefusedWith, AnsweredWith}
use Rattle.with_sheet.specs.Open.{open_by_sheet}

-- the reader's rows, the sheet's, then these
abbrev pub rows_with : List ℕ → List ℕ → List Row → List Row
rows_with bytes sheet later = reader_rows bytes ++ (sheet_row (names_of bytes) sheet ∷ later)

-- the tables: 15 before 8
abbrev pub SheetTables : List ℕ → List ℕ → Tables → Tables → Result Filled (Refusal ℕ) → Type 0
SheetTables bytes sheet before after o =
    Judged (rows_with bytes sheet (short_row before ∷ [])) (number_of o) (place_of o) (TablesRefused before after o)
    (TablesGiven (open_by_sheet sheet bytes) bytes before after o)

-- the search: 15 before 7 and 8
abbrev pub SheetSearch : List ℕ → List ℕ → Question → Lent → Lent → Outcome → Type 0
SheetSearch bytes sheet q before after o =
    Judged (rows_with bytes sheet (question_row bytes q ∷ lent_row before ∷ [])) o.number o.place (RefusedWith before after o)
    (AnsweredWith (holding_with (open_by_sheet sheet bytes) bytes) q before after o)
