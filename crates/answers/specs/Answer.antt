-- The paper's number, place, verdict, rounds and lines for each case of an answer.
use Rattle.std.specs.Prelude.{ℕ, Result, Ok, Err}
use Rattle.rt0.specs.Completion.{Verdict, YES, NO, UNSURE}
use Rattle.base.specs.declared.refusal.Refusal.{Refusal}
use Rattle.answers.specs.declared.Answer.{Answer}
use Rattle.answers.specs.declared.Answer.TheVariants.{Yes, No, Unsure}

pub record Outcome : Type 0 where
  pub number : ℕ
  pub place : ℕ
  pub verdict : ℕ
  pub rounds : ℕ
  pub lines : ℕ

-- a refusal carries number and place, with verdict, rounds and lines all 0
abbrev pub refusal : ℕ → ℕ → Outcome
refusal n p = record { number = n; place = p; verdict = 0; rounds = 0; lines = 0 }

-- 1 YES, 2 NO, 3 UNSURE
abbrev pub verdict_number : Verdict → ℕ
verdict_number YES = 1
verdict_number NO = 2
verdict_number UNSURE = 3

-- every other answer has number and place 0
abbrev pub answered : Verdict → ℕ → ℕ → Outcome
answered v n k = record { number = 0; place = 0; verdict = verdict_number v; rounds = n; lines = k }

abbrev pub outcome_of : Result Answer (Refusal ℕ) → Outcome
outcome_of (Ok (Yes n k)) = answered YES n k
outcome_of (Ok (No n)) = answered NO n 0
outcome_of (Ok (Unsure n)) = answered UNSURE n 0
outcome_of (Err why) = refusal why.number why.place
