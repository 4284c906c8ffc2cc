-- What the search with a sheet answers to an input's question, with enough memory, is what may be printed for that input.
use Rattle.std.specs.Prelude.{Result}
use Prim.Native.Nat.{ℕ, ◌-◌, min}
use mathlib.Core.Path.{◌≡◌, subst, subst₂}
use mathlib.Core.List.{List, [], ◌∷◌}
use lib.ListN.{length, take, drop}
use Rattle.base.specs.declared.refusal.Refusal.{Refusal}
use Rattle.base.specs.Byte.{byte_at}
use Rattle.base.specs.Refusals.{Clear, refused, passed}
use Rattle.bundle.specs.declared.question.Question.{Question}
use Rattle.bundle.specs.Question.{question}
use Rattle.answers.specs.declared.Answer.{Answer}
use Rattle.answers.specs.Answer.{Outcome, outcome_of}
use Rattle.answers.specs.Line.{line_of}
use Rattle.search.specs.Promise.{Lent, lent_row}
use Rattle.search.specs.Enough.{Enough}
use Rattle.search.proofs.Judging.{enough_right, enough_memory}
use Rattle.asked.specs.Input.{question_bytes, question_of}
use Rattle.asked.proofs.Input.{bundle_part, part_between}
use Rattle.asked.proofs.Answered.{prints_refused, prints_answered}
use Rattle.with_sheet.specs.Promise.{SheetSearch}
use Rattle.ask_with_sheet.specs.Input.{sheet_bytes, front_bytes, sheet_of, bundle_of}
use Rattle.ask_with_sheet.specs.Prints.{ask_rows, holding_of, Prints}

-- the first three bytes are the question, the part behind it is the sheet, and the part behind that the bundle
pub asked : (input : List ℕ) (start end d a r : ℕ) (before after : Lent) (o : Outcome) → start ≡ min question_bytes (length input)
    → end ≡ min front_bytes (length input) → d ≡ byte_at input 0 → a ≡ byte_at input 1 → r ≡ byte_at input 2
    → SheetSearch (take (length input - end) (drop end input)) (take (end - start) (drop start input)) (question d a r) before after o
    → SheetSearch (bundle_of input) (sheet_of input) (question_of input) before after o
asked input start end d a r before after o s t e f g p =
    let same : question d a r ≡ question_of input = cc in
    subst₂ (λ (bytes sheet : List ℕ). SheetSearch bytes sheet (question_of input) before after o) (bundle_part front_bytes input end t)
    (part_between question_bytes sheet_bytes input start end s t)
    (subst (λ (q : Question). SheetSearch (take (length input - end) (drop end input)) (take (end - start) (drop start input)) q before after o) same p)

-- with enough memory the search's row about memory, which the program's table has not, never applies
module _ (input : List ℕ) (m : Lent) (enough : Enough m) where
  no_memory_row : Clear (lent_row m ∷ [])
  no_memory_row = (enough_memory (bundle_of input) (question_of input) m (enough_right m enough), tt)

  pub prints_answer : (after : Lent) (answer : Result Answer (Refusal ℕ)) → SheetSearch (bundle_of input) (sheet_of input) (question_of input) m after (outcome_of answer)
      → Prints input (line_of answer)
  prints_answer after answer (refused d kept) =
      prints_refused (holding_of input) (question_of input) (ask_rows input) (lent_row m ∷ []) no_memory_row answer _ _ d kept.outcome
  prints_answer after answer (passed _ _ c a) =
      prints_answered (holding_of input) (question_of input) (ask_rows input) (lent_row m ∷ []) no_memory_row answer a.word _ _ c a.answers
      a.rounds a.outcome
