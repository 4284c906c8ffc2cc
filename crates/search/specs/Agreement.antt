-- What any two answers that keep the promise agree in: everything but how many lines a written slip has, and which.
use Rattle.std.specs.Prelude.{◌*◌, max, ◌≡◌, drop}
use Rattle.answers.specs.Answer.{Outcome}
use Rattle.search.specs.Promise.{Lent}

pub record Agreement (one : Outcome) (after_one : Lent) (two : Outcome) (after_two : Lent) : Type 0 where
  pub number : one.number ≡ two.number
  pub place : one.place ≡ two.place
  pub verdict : one.verdict ≡ two.verdict
  pub rounds : one.rounds ≡ two.rounds
  pub sure : after_one.sure ≡ after_two.sure
  pub possible : after_one.possible ≡ after_two.possible
  -- the bytes past both slips
  pub past_slips : drop (8 * max one.lines two.lines) after_one.slip ≡ drop (8 * max one.lines two.lines) after_two.slip
  -- and unless the verdict is YES
  pub lines : (one.verdict ≡ 1 → ⊥) → one.lines ≡ two.lines
  pub slip : (one.verdict ≡ 1 → ⊥) → after_one.slip ≡ after_two.slip
