-- What the programs print, in ASCII. The lines of `ask` and of `read_bundle`: a word, its numbers in decimal with one space before
-- each, and a newline. And the text that holds a line or a message.
use Rattle.std.specs.Prelude.{ℕ, ◌-◌, ◌≤◌, ◌≡◌, cond, List, [], ◌++◌, length, take, drop, replicate, ltb, Result, Ok, Err}
use Rattle.rt0.specs.Completion.{Verdict}
use Rattle.rt0.specs.Completion as word
use Rattle.base.specs.declared.refusal.Refusal.{Refusal}
use Rattle.answers.specs.declared.Answer.{Answer}
use Rattle.answers.specs.declared.Answer.TheVariants.{Yes, No, Unsure}
use Rattle.answers.specs.declared.line.Text.{Text}
use Rattle.text.specs.Ascii.{ascii}
pub use Rattle.text.specs.Ascii.{space, newline}
use Rattle.text.specs.Decimal.{decimal}

abbrev pub YES : List ℕ
YES = ascii "YES"

abbrev pub NO : List ℕ
NO = ascii "NO"

abbrev pub UNSURE : List ℕ
UNSURE = ascii "UNSURE"

abbrev pub REFUSED : List ℕ
REFUSED = ascii "REFUSED"

abbrev pub ACCEPTED : List ℕ
ACCEPTED = ascii "ACCEPTED"

-- `REFUSED number place`
abbrev pub refusal_line : ℕ → ℕ → List ℕ
refusal_line number place = REFUSED ++ space ++ decimal number ++ space ++ decimal place ++ newline

-- `ACCEPTED E R N`
abbrev pub accepted_line : ℕ → ℕ → ℕ → List ℕ
accepted_line entities names records =
    ACCEPTED ++ space ++ decimal entities ++ space ++ decimal names ++ space ++ decimal records ++ newline

-- `YES n`, `NO n` or `UNSURE n`, n being the rounds
abbrev pub answer_line : Verdict → ℕ → List ℕ
answer_line word.YES rounds = YES ++ space ++ decimal rounds ++ newline
answer_line word.NO rounds = NO ++ space ++ decimal rounds ++ newline
answer_line word.UNSURE rounds = UNSURE ++ space ++ decimal rounds ++ newline

-- the line of an answer, or a refusal's line
abbrev pub line_of : Result Answer (Refusal ℕ) → List ℕ
line_of (Ok (Yes rounds lines)) = answer_line word.YES rounds
line_of (Ok (No rounds)) = answer_line word.NO rounds
line_of (Ok (Unsure rounds)) = answer_line word.UNSURE rounds
line_of (Err why) = refusal_line why.number why.place

-- how many bytes a text has room for
abbrev pub capacity : ℕ
capacity = 64

-- a message as it stands, or nothing where it is longer than that
abbrev pub message_of : List ℕ → List ℕ
message_of letters = cond (ltb capacity (length letters)) [] letters

-- a text shows so many bytes: they are its first ones, and the bytes past them are 0
pub record Holds (text : Text) (shown : List ℕ) : Type 0 where
  pub size : length text.bytes ≡ capacity
  pub fits : text.length ≤ capacity
  pub first : take text.length text.bytes ≡ shown
  pub rest : drop text.length text.bytes ≡ replicate (capacity - text.length) 0
