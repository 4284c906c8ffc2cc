-- The line that `ask_with_sheet` prints for an input, by its table of refusals: `REFUSED number place` for the refusal that is due, or, where no
-- row applies, the word that RT0 gives where the roles are open that the sheet leaves open, and the number of rounds. The table has no row
-- about memory: the program brings its own. That no input has two lines is in proofs/Prints.antt.
use Rattle.std.specs.Prelude.{ℕ, List, [], ◌∷◌}
use Rattle.rt0.specs.Holding.{Holding}
use Rattle.base.specs.Refusals.{Row}
use Rattle.bundle.specs.Held.{holding_with}
use Rattle.bundle.specs.Question.{question_row}
use Rattle.text.specs.Ascii.{ascii}
use Rattle.said.specs.Line.{LineBy}
use Rattle.asked.specs.Input.{question_of}
use Rattle.asked.specs.Prints.{AnsweredLine}
use Rattle.with_sheet.specs.Open.{open_by_sheet}
use Rattle.with_sheet.specs.Promise.{rows_with}
use Rattle.ask_with_sheet.specs.Input.{sheet_of, bundle_of}

-- the reader's rows, that of the sheet, then that of the question
abbrev pub ask_rows : List ℕ → List Row
ask_rows input = rows_with (bundle_of input) (sheet_of input) (question_row (bundle_of input) (question_of input) ∷ [])

-- what the question is asked of: the bundle, where the roles are open that the sheet leaves open
abbrev pub holding_of : List ℕ → Holding
holding_of input = holding_with (open_by_sheet (sheet_of input) (bundle_of input)) (bundle_of input)

-- what may be printed for an input
abbrev pub Prints : List ℕ → List ℕ → Type 0
Prints input = LineBy (ask_rows input) (AnsweredLine (holding_of input) (question_of input))

-- the message where standard input cannot be read
abbrev pub unreadable : List ℕ
unreadable = ascii "ask_with_sheet: standard input cannot be read to its end\n"
