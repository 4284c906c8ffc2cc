-- An input that is longer than any bundle has the line of refusal 1 at 0.
use Rattle.std.specs.Prelude.{ℕ, ◌<◌, List, length, refl}
use mathlib.Core.Logic.{inl, inr}
use Rattle.bundle.specs.Layout.{longest_bundle}
use Rattle.answers.specs.Line.{refusal_line}
use Rattle.said.specs.Line.{refuses}
use Rattle.read_bundle.specs.Prints.{Prints}

pub prints_longer : (input : List ℕ) → longest_bundle < length input → Prints input (refusal_line 1 0)
prints_longer input long = refuses 1 0 (inl (refl, (refl, inr (inl long)))) refl
