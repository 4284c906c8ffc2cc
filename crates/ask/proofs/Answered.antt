-- What the search answers to an input's question, with enough memory, is what may be printed for that input.
use Rattle.std.specs.Prelude.{Result}
use Prim.Native.Nat.{ℕ, ◌-◌, min}
use mathlib.Core.Path.{◌≡◌, subst₂}
use mathlib.Core.List.{List, [], ◌∷◌}
use lib.ListN.{length, take, drop}
use Rattle.base.specs.declared.refusal.Refusal.{Refusal}
use Rattle.base.specs.Byte.{byte_at}
use Rattle.base.specs.Refusals.{Clear, refused, passed}
use Rattle.bundle.specs.declared.question.Question.{Question}
use Rattle.bundle.specs.Question.{question}
use Rattle.bundle.specs.Held.{holding_in}
use Rattle.answers.specs.declared.Answer.{Answer}
use Rattle.answers.specs.Answer.{Outcome, outcome_of}
use Rattle.answers.specs.Line.{line_of}
use Rattle.search.specs.Promise.{Lent, lent_row, Promise}
use Rattle.search.specs.Enough.{Enough}
use Rattle.search.proofs.Judging.{enough_right, enough_memory}
use Rattle.asked.specs.Input.{question_bytes, bundle_of, question_of}
use Rattle.asked.specs.Prints.{ask_rows, Prints}
use Rattle.asked.proofs.Input.{bundle_part}
use Rattle.asked.proofs.Answered.{prints_refused, prints_answered}

-- the part behind the question is the bundle, and the first three bytes are the question
pub asked : (input : List ℕ) (start d a r : ℕ) (before after : Lent) (o : Outcome) → start ≡ min question_bytes (length input)
    → d ≡ byte_at input 0 → a ≡ byte_at input 1 → r ≡ byte_at input 2
    → Promise (take (length input - start) (drop start input)) (question d a r) before after o
    → Promise (bundle_of input) (question_of input) before after o
asked input start d a r before after o s e f g p =
    let same : question d a r ≡ question_of input = cc in
    subst₂ (λ (bytes : List ℕ) (q : Question). Promise bytes q before after o) (bundle_part question_bytes input start s) same p

-- with enough memory the search's row about memory, which the program's table has not, never applies
module _ (input : List ℕ) (m : Lent) (enough : Enough m) where
  no_memory_row : Clear (lent_row m ∷ [])
  no_memory_row = (enough_memory (bundle_of input) (question_of input) m (enough_right m enough), tt)

  pub prints_answer : (after : Lent) (answer : Result Answer (Refusal ℕ)) → Promise (bundle_of input) (question_of input) m after (outcome_of answer)
      → Prints input (line_of answer)
  prints_answer after answer (refused d kept) =
      prints_refused (holding_in (bundle_of input)) (question_of input) (ask_rows input) (lent_row m ∷ []) no_memory_row answer _ _ d kept.outcome
  prints_answer after answer (passed _ _ c a) =
      prints_answered (holding_in (bundle_of input)) (question_of input) (ask_rows input) (lent_row m ∷ []) no_memory_row answer a.word _ _ c a.answers
      a.rounds a.outcome
