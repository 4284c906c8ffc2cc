-- An input that is longer than any question has the line of refusal 1 at 0.
use Rattle.std.specs.Prelude.{ℕ, ◌<◌, List, length, refl}
use native.Mathlib.Omega.{arith}
use mathlib.Core.Logic.{inl, inr}
use lib.ListN.{length-drop}
use Rattle.answers.specs.Line.{refusal_line}
use Rattle.said.specs.Line.{refuses}
use Rattle.ask_with_sheet.specs.Input.{front_bytes, longest_input}
use Rattle.ask_with_sheet.specs.Prints.{Prints}

pub prints_longer : (input : List ℕ) → longest_input < length input → Prints input (refusal_line 1 0)
prints_longer input long = refuses 1 0 (inl (refl, (refl, inr (inl (omega (arith, length-drop front_bytes input)))))) refl
