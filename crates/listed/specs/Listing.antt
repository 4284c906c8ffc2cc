-- What a program of lists says: on standard output so many bytes of its text and then a line, one of which is empty, and a message on standard
-- error. And what is rightly said.
use Rattle.std.specs.Prelude.{ℕ, ◌≤◌, ◌≡◌, List, [], ◌++◌, length, take, Result, Ok, Err}
use Rattle.base.specs.declared.refusal.Refusal.{Refusal}
use Rattle.answers.specs.Line.{refusal_line, Holds}
use Rattle.input.specs.declared.Input.{Input}
use Rattle.said.specs.Said.{RightlyBy}
use Rattle.listed.specs.declared.Listing.{Listing}

-- the bytes on standard output are allowed
pub record ListsAllowed (text : List ℕ) (l : Listing) (Allowed : List ℕ → Type 0) : Type 0 where
  pub inside : l.length ≤ length text
  pub line : List ℕ
  pub holds : Holds l.line line
  pub allowed : Allowed (take l.length text ++ line)

-- what is rightly said of a buffer that standard input was read into
abbrev pub RightlyListed : {E : Type 0} → (List ℕ → List ℕ → Type 0) → List ℕ → Result Input E → List ℕ → List ℕ → Listing → Type 0
RightlyListed Prints unreadable got buffer text l = RightlyBy (ListsAllowed text l) l.problem Prints unreadable got buffer

-- what is said of an answer: the text that it left, or the line of the refusal
abbrev pub Tells : Result ℕ (Refusal ℕ) → Listing → Type 0
Tells (Ok n) l = (l.length ≡ n) × Holds l.line [] × Holds l.problem []
Tells (Err why) l = (l.length ≡ 0) × Holds l.line (refusal_line why.number why.place) × Holds l.problem []
