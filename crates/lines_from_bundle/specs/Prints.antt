-- What the program `lines_from_bundle` prints for an input, by the reader's table of refusals: `REFUSED number place` for the refusal that is
-- due, or, where no row applies, the lines of the bundle's credentials in order. That no input has two outputs is in proofs/Prints.antt.
use Rattle.std.specs.Prelude.{ℕ, ◌≡◌, List}
use Rattle.bundle.specs.Rows.{reader_rows}
use Rattle.bundle.specs.Held.{held}
use Rattle.text.specs.Ascii.{ascii}
use Rattle.letters.specs.Lines.{text_of}
use Rattle.said.specs.Line.{LineBy}

-- the lines of the credentials that a bundle holds
abbrev pub LinesFrom : List ℕ → List ℕ → Type 0
LinesFrom input shown = shown ≡ text_of (held input)

-- what may be printed for an input
abbrev pub Prints : List ℕ → List ℕ → Type 0
Prints input = LineBy (reader_rows input) (LinesFrom input)

-- the message where standard input cannot be read
abbrev pub unreadable : List ℕ
unreadable = ascii "lines_from_bundle: standard input cannot be read to its end\n"
