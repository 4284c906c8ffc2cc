-- What the program `read_bundle` prints for an input, by the reader's table of refusals: `REFUSED number place` for the refusal that is due,
-- or, where no row applies, `ACCEPTED E R N` of what block 0 says. That no input has two lines is in proofs/Prints.antt.
use Rattle.std.specs.Prelude.{ℕ, ◌≡◌, List}
use Rattle.bundle.specs.Layout.{entities_of, names_of, records_of}
use Rattle.bundle.specs.Rows.{reader_rows}
use Rattle.text.specs.Ascii.{ascii}
use Rattle.answers.specs.Line.{accepted_line}
use Rattle.said.specs.Line.{LineBy}

-- the line of what block 0 says
abbrev pub AcceptedLine : List ℕ → List ℕ → Type 0
AcceptedLine input shown = shown ≡ accepted_line (entities_of input) (names_of input) (records_of input)

-- what may be printed for an input
abbrev pub Prints : List ℕ → List ℕ → Type 0
Prints input = LineBy (reader_rows input) (AcceptedLine input)

-- the message where standard input cannot be read
abbrev pub unreadable : List ℕ
unreadable = ascii "read_bundle: standard input cannot be read to its end\n"
