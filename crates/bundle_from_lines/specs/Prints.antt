-- What the program `bundle_from_lines` prints for an input, by its table of refusals: `REFUSED number place` for the refusal that is due, or,
-- where no row applies, the bytes of the bundle that has E, R, the marks and the records of the credentials whose lines the text is, in order.
-- The table has no row about memory: the program brings its own. That no input has two outputs is in proofs/Prints.antt.
use Rattle.std.specs.Prelude.{ℕ, ◌<◌, ◌≡◌, List, [], ◌∷◌, map}
use Rattle.rt0.specs.Credential.{Credential}
use Rattle.base.specs.Refusals.{Row, row, AtPlace, AtZero, FromOne}
use Rattle.records.specs.Bytes.{bytes_of}
use Rattle.content.specs.Content.{Content, most_records}
use Rattle.content.specs.Encode.{encode}
use Rattle.writer.specs.Rows.{HeadWrong}
use Rattle.text.specs.Ascii.{ascii}
use Rattle.letters.specs.Lines.{line_count}
use Rattle.letters.specs.Rows.{FirstWrong}
use Rattle.letters.specs.Promise.{Letter}
use Rattle.said.specs.Line.{LineBy}
use Rattle.bundle_from_lines.specs.Input.{entities_given, names_given, marks_given, text_given}

-- the first wrong line among the first 240; anything behind line 240
abbrev pub text_rows : ℕ → ℕ → List ℕ → List Row
text_rows E R text =
    row 14 (FromOne (FirstWrong E R text))
    ∷ row 12 (AtPlace 241 (most_records < line_count text))
    ∷ []

-- before them E, R and the marks
abbrev pub head_rows : ℕ → ℕ → List ℕ → List ℕ → List Row
head_rows E R marks text = row 3 (AtZero (HeadWrong E R marks)) ∷ text_rows E R text

-- what the bundle of these credentials holds
abbrev pub content_with : ℕ → ℕ → List ℕ → List Credential → Content
content_with E R marks cs = record { entities = E; names = R; marks = marks; records = map bytes_of cs }

-- the bytes of the bundle of the credentials whose lines the text is
pub record BundleOf (E R : ℕ) (marks text shown : List ℕ) : Type 0 where
  pub letter : Letter E R text
  pub bytes : shown ≡ encode (content_with E R marks letter.credentials)

abbrev pub bundle_rows : List ℕ → List Row
bundle_rows input = head_rows (entities_given input) (names_given input) (marks_given input) (text_given input)

abbrev pub BundleFrom : List ℕ → List ℕ → Type 0
BundleFrom input = BundleOf (entities_given input) (names_given input) (marks_given input) (text_given input)

-- what may be printed for an input
abbrev pub Prints : List ℕ → List ℕ → Type 0
Prints input = LineBy (bundle_rows input) (BundleFrom input)

-- the message where standard input cannot be read
abbrev pub unreadable : List ℕ
unreadable = ascii "bundle_from_lines: standard input cannot be read to its end\n"
