-- `writer::last::put_record` meets its contract. The invariant: the bytes passed are those of the block with the record put last.
use native.Mathlib.Omega.{arith}
use Rattle.content.proofs.Stores.{filled_more, filled_all, placed_none, placed_next}
use Rattle.writer.proofs.last.put_record.Goals as goal

pub loop-i-init : goal.loop-i-init
loop-i-init c = placed_none c.args.n c.args.«record».now c.args.bytes.now c.requires.0

pub loop-i-preserved : goal.loop-i-preserved
loop-i-preserved c =
    let loop = c.loop-i in
    filled_more _ loop.i _ loop.bytes loop.invariant (omega arith)
    (placed_next c.args.n c.args.«record».now c.args.bytes.now loop.i _ (omega arith) c.last_byte.ensures.0)

pub returns : goal.returns
returns c = filled_all _ c.loop-i.i c.loop-i.bytes (omega arith) c.loop-i.invariant
