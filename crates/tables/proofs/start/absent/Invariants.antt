-- `tables::start::absent` meets its contract. The invariant: the word is that of the absent ones of the first i entities.
use mathlib.Core.Path.{◌≡◌}
use Rattle.tables.specs.Open.{absent_word}
use Rattle.tables.proofs.start.absent.Given as goal

abbrev pub invariant-loop-i : goal.invariant-loop-i
invariant-loop-i l = l.word ≡ absent_word l.bundle l.i
