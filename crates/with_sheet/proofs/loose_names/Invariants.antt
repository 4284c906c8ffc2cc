-- `with_sheet::loose_names` meets its contract. The invariant: the word is that of the first i names.
use mathlib.Core.Path.{◌≡◌}
use Rattle.with_sheet.specs.Open.{loose_word}
use Rattle.with_sheet.proofs.loose_names.Given as goal

abbrev pub invariant-loop-i : goal.invariant-loop-i
invariant-loop-i l = l.names ≡ loose_word l.sheet l.i
