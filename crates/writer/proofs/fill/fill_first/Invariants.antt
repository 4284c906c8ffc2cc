-- `writer::fill::fill_first` meets its contract. The invariant: the bytes passed are those of block 0.
use Rattle.bundle.specs.Edition.{edition_for}
use Rattle.content.specs.InPlace.{Filled, given_byte}
use Rattle.writer.proofs.fill.fill_first.Given as goal

abbrev pub invariant-loop-i : goal.invariant-loop-i
invariant-loop-i l = Filled (given_byte (edition_for l.names) l.entities l.names l.count l.marks) l.i l.bytes
