-- The text of the right list, as what a program gives where no row of its table applies. There is only one: proofs/Given.antt.
use Rattle.std.specs.Prelude.{ℕ, ◌≡◌, List}
use Rattle.lines.specs.Right.{Line}
use Rattle.lines.specs.Text.{list_text}

pub record GivenText {K : Type 0} (Right : List (Line K) → Type 0) (key_text : K → List ℕ) (shown : List ℕ) : Type 0 where
  pub list : List (Line K)
  pub right : Right list
  pub text : shown ≡ list_text key_text list
