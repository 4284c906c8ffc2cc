-- `tables::settle::settle` meets its contract. The invariant: the words are those after so many rounds, each of which changed
-- something. The measure is the room that is left.
use mathlib.Core.Path.{◌≡◌}
use lib.ListN.{length}
use Rattle.rt0.proofs.Settle.{room}
use Rattle.words.specs.Sizes.{width, table_words}
use Rattle.bundle.specs.Held.{held}
use Rattle.tables.proofs.Settling.{Going}
use Rattle.tables.proofs.settle.settle.Given as goal

abbrev pub invariant-loop-sizes : goal.invariant-loop-sizes
invariant-loop-sizes l = (length l.words ≡ table_words) × Going l.sizes.entities (held l.bundle) l.initial.words l.rounds l.words

abbrev pub decreases-loop-sizes : goal.decreases-loop-sizes
decreases-loop-sizes l = room l.sizes.entities width (held l.bundle) l.words
