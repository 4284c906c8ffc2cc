-- The checker's table of refusals, in the paper's order: the reader's rows, the question's, and its own, 9 to 11, on the slip. A line breaks
-- the slip's rules where it is not right by RT0's definition. And what an answer of the checker comes to by it, in the paper's numbers.
use Rattle.std.specs.Prelude.{ℕ, ◌/◌, ◌%◌, ◌<◌, ◌≡◌, ◌⊎◌, List, [], ◌∷◌, ◌++◌, length, take, Result, Ok, Err}
use Rattle.std.proofs.Math.Option.{some}
use Rattle.std.proofs.Math.ListN.{get_elem?}
use Rattle.rt0.specs.Credential.{Role}
use Rattle.rt0.specs.Book.{Book}
use Rattle.rt0.specs.Slip.{Line, ◌∋◌, Says, RightLine, RightSlip}
use Rattle.rt0.specs.Bytes.{lines_of}
use Rattle.rt0.specs.Sizes.{slip_bytes}
use Rattle.base.specs.declared.refusal.Refusal.{Refusal}
use Rattle.base.specs.Refused.{number_of, place_of}
use Rattle.base.specs.Refusals.{Row, row, AtZero, FromOne, Judged}
use Rattle.bundle.specs.declared.question.Question.{Question}
use Rattle.bundle.specs.Rows.{reader_rows}
use Rattle.bundle.specs.Held.{book_in}
use Rattle.bundle.specs.Question.{role_asked, question_row}

-- the lines of a slip
abbrev pub lines_in : List ℕ → List Line
lines_in slip = lines_of slip (length slip / 8)

-- slip length is 0, above 61,440 or no multiple of 8
abbrev pub SlipLengthWrong : ℕ → Type 0
SlipLengthWrong n = (n ≡ 0) ⊎ ((slip_bytes < n) ⊎ (n % 8 ≡ 0 → ⊥))

-- line i, counted from 0, breaks the slip's rules
pub record Breaks (book : Book) (lines : List Line) (i : ℕ) : Type 0 where
  pub broken : Line
  pub there : get_elem? lines i ≡ some broken
  pub wrong : RightLine book (take i lines) broken → ⊥

-- it is the lowest such line
pub record FirstBroken (book : Book) (lines : List Line) (i : ℕ) : Type 0 where
  pub breaks : Breaks book lines i
  pub lowest : (j : ℕ) → j < i → Breaks book lines j → ⊥

-- the rows on a slip that is to state, by the numbers of a book, that D is in ρ
abbrev pub slip_rows : Book → Role → ℕ → List ℕ → List Row
slip_rows book ρ D slip =
    row 9 (AtZero (SlipLengthWrong (length slip)))
    -- a line breaks the slip's rules; the lowest such line
    ∷ row 10 (FromOne (FirstBroken book (lines_in slip)))
    -- all lines right, the last states another fact
    ∷ row 11 (AtZero (RightSlip book (lines_in slip) × (Says book (lines_in slip) (length (lines_in slip)) (ρ ∋ D) → ⊥)))
    ∷ []

-- all rows
abbrev pub checker_rows : List ℕ → Question → List ℕ → List Row
checker_rows bundle q slip = reader_rows bundle ++ (question_row bundle q ∷ slip_rows (book_in bundle) (role_asked q) q.person slip)

-- the lines of an answer
abbrev pub lines_number : Result ℕ (Refusal ℕ) → ℕ
lines_number (Ok lines) = lines
lines_number (Err why) = 0

-- this is the checker's answer to a bundle, a question and a slip: the refusal that is due, or, where no row applies, acceptance with the
-- number of lines
abbrev pub Checks : List ℕ → Question → List ℕ → Result ℕ (Refusal ℕ) → Type 0
Checks bundle q slip c =
    Judged (checker_rows bundle q slip) (number_of c) (place_of c) (lines_number c ≡ 0) (lines_number c ≡ length slip / 8)
