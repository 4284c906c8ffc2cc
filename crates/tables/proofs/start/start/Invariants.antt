-- `tables::start::start` meets its contract. The invariant: the first i words are those of the table to be made.
use mathlib.Core.Path.{◌≡◌}
use lib.ListN.{take}
use Rattle.rt0.specs.Word.{open_words}
use Rattle.words.specs.Sizes.{width}
use Rattle.tables.specs.Open.{open_in}
use Rattle.tables.proofs.start.start.Given as goal

abbrev pub invariant-loop-i : goal.invariant-loop-i
invariant-loop-i l = take l.i l.words ≡ open_words l.sizes.entities l.sizes.names width (open_in l.roles) l.i
