-- What the program `members` prints for an input, by its table of refusals: `REFUSED number place` for the refusal that is due, or, where no
-- row applies, the text of the right list. The table has no row about memory: the program brings its own. That no input has two texts is in
-- proofs/Prints.antt.
use Rattle.std.specs.Prelude.{ℕ, List, [], ◌∷◌, ◌++◌}
use Rattle.text.specs.Ascii.{ascii}
use Rattle.base.specs.Refusals.{Row}
use Rattle.bundle.specs.Rows.{reader_rows}
use Rattle.bundle.specs.Held.{holding_in}
use Rattle.said.specs.Line.{LineBy}
use Rattle.lines.specs.Text.{person_text}
use Rattle.lists.specs.Asked.{RightMembers}
use Rattle.lists.specs.Promise.{role_row}
use Rattle.listed.specs.Given.{GivenText}
use Rattle.members.specs.Input.{bundle_of, role_of}

-- the reader's rows, then that of the role
abbrev pub members_rows : List ℕ → List Row
members_rows input = reader_rows (bundle_of input) ++ (role_row (bundle_of input) (role_of input) ∷ [])

-- what may be printed for an input
abbrev pub Prints : List ℕ → List ℕ → Type 0
Prints input = LineBy (members_rows input) (GivenText (RightMembers (holding_in (bundle_of input)) (role_of input)) person_text)

-- the message where standard input cannot be read
abbrev pub unreadable : List ℕ
unreadable = ascii "members: standard input cannot be read to its end\n"
