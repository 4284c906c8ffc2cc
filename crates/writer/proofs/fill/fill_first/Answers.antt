-- `writer::fill::fill_first` meets its contract. The invariant: the bytes passed are those of block 0.
use mathlib.Core.Path.{◌∙◌}
use native.Mathlib.Omega.{arith}
use Rattle.content.proofs.Stores.{filled_more, filled_sealed}
use Rattle.writer.proofs.fill.fill_first.Goals as goal

pub loop-i-preserved : goal.loop-i-preserved
loop-i-preserved c =
    let loop = c.loop-i in
    filled_more _ loop.i _ loop.bytes loop.invariant (omega arith) c.first_byte.ensures

pub returns : goal.returns
returns c =
    let loop = c.loop-i in
    c.seal.ensures ∙ filled_sealed _ loop.i loop.bytes c.loop-i-test.false loop.invariant
