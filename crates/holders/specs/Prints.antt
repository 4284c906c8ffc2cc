-- What the program `holders` prints for an input, by its table of refusals: `REFUSED number place` for the refusal that is due, or, where no row
-- applies, the text of what is said of all records. The table has no row about memory: the program brings its own. That no input has two texts
-- is in proofs/Prints.antt.
use Rattle.std.specs.Prelude.{ℕ, List, [], ◌∷◌, ◌++◌}
use Rattle.text.specs.Ascii.{ascii}
use Rattle.base.specs.Refusals.{Row}
use Rattle.bundle.specs.Layout.{names_of}
use Rattle.bundle.specs.Rows.{reader_rows}
use Rattle.sheet.specs.Sheet.{sheet_row}
use Rattle.said.specs.Line.{LineBy}
use Rattle.holder_lines.specs.Promise.{HoldersGiven}
use Rattle.holders.specs.Input.{sheet_of, bundle_of}

-- the reader's rows, then that of the sheet
abbrev pub printed_rows : List ℕ → List Row
printed_rows input = reader_rows (bundle_of input) ++ (sheet_row (names_of (bundle_of input)) (sheet_of input) ∷ [])

-- what may be printed for an input
abbrev pub Prints : List ℕ → List ℕ → Type 0
Prints input = LineBy (printed_rows input) (HoldersGiven (bundle_of input) (sheet_of input))

-- the message where standard input cannot be read
abbrev pub unreadable : List ℕ
unreadable = ascii "holders: standard input cannot be read to its end\n"
