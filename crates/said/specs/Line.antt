-- The line that a program prints for an input, by its table of refusals: that of the refusal that is due, or, where no row applies, one
-- that the program gives. That it is the only one, where two given lines are equal, is in proofs/Line.antt.
use Rattle.std.specs.Prelude.{ℕ, ◌≡◌, List}
use Rattle.base.specs.Refusals.{Row, Clear, Due}
use Rattle.answers.specs.Line.{refusal_line}

pub data LineBy (rows : List Row) (Given : List ℕ → Type 0) (shown : List ℕ) : Type 0 where
  refuses : (number place : ℕ) → Due rows number place → shown ≡ refusal_line number place → LineBy rows Given shown
  gives : Clear rows → Given shown → LineBy rows Given shown
