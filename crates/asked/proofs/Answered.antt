-- The line of an answer, whatever table of refusals it is judged by and whatever the question is asked of: there is one for the word and the
-- rounds, and that of a refusal that is due, or else of the word and the rounds, is what may be printed.
use Rattle.std.specs.Prelude.{Result, Ok, Err}
use Prim.Native.Nat.{ℕ, zero, suc}
use mathlib.Core.Path.{◌≡◌, refl, ap, ap₂, sym, subst, ◌∙◌}
use mathlib.Core.List.{List, ◌++◌}
use Rattle.rt0.specs.Completion.{Verdict, YES, NO, UNSURE}
use Rattle.rt0.specs.Table.{Rounds}
use Rattle.rt0.specs.Holding.{Holding}
use Rattle.rt0.proofs.Tables.{rounds_unique}
use Rattle.rt0.proofs.Possible.{answer_unique}
use Rattle.base.specs.declared.refusal.Refusal.{Refusal}
use Rattle.base.specs.Refusals.{Row, Clear, Due}
use Rattle.bundle.specs.declared.question.Question.{Question}
use Rattle.bundle.specs.Question.{role_asked}
use Rattle.answers.specs.declared.Answer.{Answer}
use Rattle.answers.specs.declared.Answer.TheVariants.{Yes, No, Unsure}
use Rattle.answers.specs.Answer.{Outcome, refusal, answered, outcome_of}
use Rattle.answers.specs.Line.{refusal_line, answer_line, line_of}
use Rattle.said.specs.Line.{LineBy}
use Rattle.said.proofs.Line.{line_refused, line_given}
use Rattle.asked.specs.Prints.{AnswersIn, AnsweredLine}

-- the line of an outcome's numbers, by its verdict: 0 is a refusal
abbrev line_by : ℕ → Outcome → List ℕ
line_by zero o = refusal_line o.number o.place
line_by (suc zero) o = answer_line YES o.rounds
line_by (suc (suc zero)) o = answer_line NO o.rounds
line_by (suc (suc (suc n))) o = answer_line UNSURE o.rounds

abbrev outcome_line : Outcome → List ℕ
outcome_line o = line_by o.verdict o

-- the line of an answer is that of its numbers
line_of_lem : (answer : Result Answer (Refusal ℕ)) → line_of answer ≡ outcome_line (outcome_of answer)
line_of_lem (Ok (Yes rounds lines)) = refl
line_of_lem (Ok (No rounds)) = refl
line_of_lem (Ok (Unsure rounds)) = refl
line_of_lem (Err why) = refl

word_line : (word : Verdict) (rounds lines : ℕ) → outcome_line (answered word rounds lines) ≡ answer_line word rounds
word_line YES rounds lines = refl
word_line NO rounds lines = refl
word_line UNSURE rounds lines = refl

module _ (h : Holding) (q : Question) where
  -- RT0 gives one word, and there is one number of rounds
  pub answered_once : (one two : List ℕ) → AnsweredLine h q one → AnsweredLine h q two → one ≡ two
  answered_once one two a b =
      let word : a.word ≡ b.word =
      answer_unique h.entities h.names h.is_open h.held (role_asked q) q.person _ _ a.answers b.answers in
      let rounds : a.rounds ≡ b.rounds = rounds_unique h.held _ _ a.counted b.counted in
      a.line ∙ ap₂ answer_line word rounds ∙ sym b.line

  -- the program's rows, and those behind them that never apply
  module _ (rows rest : List Row) (none : Clear rest) (answer : Result Answer (Refusal ℕ)) where
    pub prints_refused : (number place : ℕ) → Due (rows ++ rest) number place → outcome_of answer ≡ refusal number place
        → LineBy rows (AnsweredLine h q) (line_of answer)
    prints_refused number place d outcome =
        let line : line_of answer ≡ refusal_line number place = line_of_lem answer ∙ ap outcome_line outcome in
        subst (LineBy rows (AnsweredLine h q)) (sym line) (line_refused rows (AnsweredLine h q) rest none number place d)

    pub prints_answered : (word : Verdict) (rounds lines : ℕ) → Clear (rows ++ rest) → AnswersIn h q word → Rounds h.held rounds
        → outcome_of answer ≡ answered word rounds lines → LineBy rows (AnsweredLine h q) (line_of answer)
    prints_answered word rounds lines c answers counted outcome =
        line_given rows (AnsweredLine h q) rest none c
        (record {
          word = word;
          rounds = rounds;
          answers = answers;
          counted = counted;
          line = line_of_lem answer ∙ ap outcome_line outcome ∙ word_line word rounds lines;
        })
