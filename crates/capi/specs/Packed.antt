-- The packed answers: the promises of the search and of the tables, with or without a sheet, and of the checker, of the five numbers that are packed.
use Rattle.std.specs.Prelude.{ℕ, ◌≡◌, List, Result}
use Rattle.base.specs.declared.refusal.Refusal.{Refusal}
use Rattle.base.specs.Refused.{number_of, place_of}
use Rattle.answers.specs.Answer.{Outcome}
use Rattle.answers.specs.Pack.{packed, unpacked}
use Rattle.bundle.specs.declared.question.Question.{Question}
use Rattle.tables.specs.declared.Filled.{Filled}
use Rattle.tables.specs.Promise.{rounds_of}
use Rattle.checker.specs.Rows.{lines_number, Checks}

-- the five numbers that a result unpacks to are as a search promises, and the result is those five packed
pub record PackedPromise (Promised : Outcome → Type 0) (result : ℕ) : Type 0 where
  pub packing : result ≡ packed (unpacked result)
  pub promise : Promised (unpacked result)

-- the five numbers of what filling the tables answers: it has no verdict and no lines
abbrev pub filled_outcome : Result Filled (Refusal ℕ) → Outcome
filled_outcome answer =
    record { number = number_of answer; place = place_of answer; verdict = 0; rounds = rounds_of answer; lines = 0 }

-- the result is the tables' answer, packed, and that is as promised
pub record PackedTables (Promised : Result Filled (Refusal ℕ) → Type 0) (result : ℕ) : Type 0 where
  pub answer : Result Filled (Refusal ℕ)
  pub promise : Promised answer
  pub packing : result ≡ packed (filled_outcome answer)

-- the five numbers of the checker's answer: it has no verdict and no rounds
abbrev pub checked_outcome : Result ℕ (Refusal ℕ) → Outcome
checked_outcome answer =
    record { number = number_of answer; place = place_of answer; verdict = 0; rounds = 0; lines = lines_number answer }

-- the result is the checker's answer, packed
pub record PackedCheck (bundle : List ℕ) (q : Question) (slip : List ℕ) (result : ℕ) : Type 0 where
  pub answer : Result ℕ (Refusal ℕ)
  pub checks : Checks bundle q slip answer
  pub packing : result ≡ packed (checked_outcome answer)
