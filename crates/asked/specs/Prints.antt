-- The line that `ask` prints for an input, by its table of refusals: `REFUSED number place` for the refusal that is due, or, where no row
-- applies, the word that RT0 gives and the number of rounds. The table has no row about memory: the program brings its own. That no input has
-- two lines is in proofs/Prints.antt.
use Rattle.std.specs.Prelude.{ℕ, ◌≡◌, List, [], ◌∷◌, ◌++◌}
use Rattle.rt0.specs.Completion.{Verdict, Answers}
use Rattle.rt0.specs.Table.{Rounds}
use Rattle.rt0.specs.Holding.{Holding}
use Rattle.base.specs.Refusals.{Row}
use Rattle.bundle.specs.declared.question.Question.{Question}
use Rattle.bundle.specs.Rows.{reader_rows}
use Rattle.bundle.specs.Question.{role_asked, question_row}
use Rattle.bundle.specs.Held.{holding_in}
use Rattle.text.specs.Ascii.{ascii}
use Rattle.answers.specs.Line.{answer_line}
use Rattle.said.specs.Line.{LineBy}
use Rattle.asked.specs.Input.{bundle_of, question_of}

-- the reader's rows, then that of the question
abbrev pub ask_rows : List ℕ → List Row
ask_rows input = reader_rows (bundle_of input) ++ (question_row (bundle_of input) (question_of input) ∷ [])

-- the word is RT0's answer to a question that is asked of a holding
abbrev pub AnswersIn : Holding → Question → Verdict → Type 0
AnswersIn h q word = Answers h.entities h.names h.is_open h.held (role_asked q) q.person word

-- the line of RT0's answer to a question that is asked of a holding, with the number of rounds over its credentials
pub record AnsweredLine (h : Holding) (q : Question) (shown : List ℕ) : Type 0 where
  pub word : Verdict
  pub rounds : ℕ
  pub answers : AnswersIn h q word
  pub counted : Rounds h.held rounds
  pub line : shown ≡ answer_line word rounds

-- what may be printed for an input
abbrev pub Prints : List ℕ → List ℕ → Type 0
Prints input = LineBy (ask_rows input) (AnsweredLine (holding_in (bundle_of input)) (question_of input))

-- the message where standard input cannot be read
abbrev pub unreadable : List ℕ
unreadable = ascii "ask: standard input cannot be read to its end\n"
