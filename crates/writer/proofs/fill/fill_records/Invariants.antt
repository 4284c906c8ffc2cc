-- `writer::fill::fill_records` meets its contract. The invariant: the bytes passed are those of the record block.
use Rattle.content.specs.InPlace.{Filled, listed_byte}
use Rattle.writer.proofs.fill.fill_records.Given as goal

abbrev pub invariant-loop-i : goal.invariant-loop-i
invariant-loop-i l = Filled (listed_byte l.records l.j) l.i l.bytes
