-- The paper's slip for P1 and the three ways in which it breaks, each with what the checker is to answer.
use Rattle.std.specs.Prelude.{ℕ, List, [], ◌∷◌, Result, Ok, Err}
use Rattle.rt0.specs.Slip.{Line, line}
use Rattle.rt0.specs.Bytes.{bytes_of}
use Rattle.rt0.specs.House.{Archive, Nina, signer}
use Rattle.base.specs.declared.refusal.Refusal.{Refusal}
use Rattle.base.specs.Refused.{refusal_at}
use Rattle.bundle.specs.declared.question.Question.{Question}
use Rattle.bundle.specs.Question.{question}
use Rattle.checker.specs.Rows.{Checks}
use Rattle.house.specs.Bundles.{all_present}

pub record SlipCase : Type 0 where
  pub lines : List Line
  pub answer : Result ℕ (Refusal ℕ)

-- lines 1 to 5, line 4 with this premise, and what follows them
abbrev pub slip_with : ℕ → List Line → List Line
slip_with premise rest = line 3 2 0 0 0 ∷ line 4 4 0 0 0 ∷ line 4 5 0 0 0 ∷ line 3 1 premise 0 0 ∷ line 4 3 4 2 0 ∷ rest

-- the slip; the last line's premises exchanged; without its last line; line 4 naming premise 4
unfoldable pub slips : List SlipCase
slips =
    record { lines = slip_with 1 (line 4 6 5 3 0 ∷ []); answer = Ok 6 }
    ∷ record { lines = slip_with 1 (line 4 6 3 5 0 ∷ []); answer = Err (refusal_at 10 6) }
    ∷ record { lines = slip_with 1 []; answer = Err (refusal_at 11 0) }
    ∷ record { lines = slip_with 4 (line 4 6 5 3 0 ∷ []); answer = Err (refusal_at 10 4) }
    ∷ []

-- whether Nina signs for the Archive
abbrev pub asked_of_p1 : Question
asked_of_p1 = question Nina Archive signer

-- the answer is the checker's on P1's bundle
abbrev pub RightAnswer : SlipCase → Type 0
RightAnswer s = Checks all_present asked_of_p1 (bytes_of s.lines) s.answer
