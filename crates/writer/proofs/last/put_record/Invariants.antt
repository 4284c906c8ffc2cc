-- `writer::last::put_record` meets its contract. The invariant: the bytes passed are those of the block with the record put last.
use Rattle.base.specs.Byte.{byte_at}
use Rattle.content.specs.InPlace.{Filled, placed}
use Rattle.writer.proofs.last.put_record.Given as goal

abbrev pub invariant-loop-i : goal.invariant-loop-i
invariant-loop-i l = Filled (placed l.n l.«record» (byte_at l.initial.bytes)) l.i l.bytes
