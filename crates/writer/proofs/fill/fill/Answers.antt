-- `writer::fill::fill` meets its contract. The invariant: whatever block 0 is, the record blocks passed stand behind it.
use mathlib.Core.Path.{refl}
use native.Mathlib.Omega.{arith}
use Rattle.writer.proofs.Filling.{first_size, continues_more, fill_done}
use Rattle.writer.proofs.fill.fill.Goals as goal

pub loop-j-preserved : goal.loop-j-preserved
loop-j-preserved c =
    let loop = c.loop-j in
    let filled = c.fill_first in
    let begun = first_size c.args.bundle.now filled.new.bytes _ (omega arith) filled.ensures in
    continues_more c.args.records.now _ loop.bundle _ loop.j c.requires.0 (omega (arith, begun)) loop.invariant c.fill_block.ensures

pub returns : goal.returns
returns c =
    let loop = c.loop-j in
    fill_done c.args.entities c.args.names c.args.marks.now c.args.records.now c.args.bundle.now _ loop.j
    c.fill_first.new.bytes loop.bundle refl c.requires.2 c.fill_first.ensures (omega arith) loop.invariant
