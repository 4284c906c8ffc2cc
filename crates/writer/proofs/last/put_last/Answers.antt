-- `writer::last::put_last` meets its contract.
use mathlib.Core.Path.{◌∙◌}
use native.Mathlib.Omega.{arith}
use lib.ListN.{length-set}
use Rattle.writer.proofs.Filling.{last_put}
use Rattle.writer.proofs.last.put_last.Goals as goal

pub seal_block-requires : goal.seal_block-requires
seal_block-requires c =
    rw length-set (omega (arith, c.put_block.ensures.same, c.byte-n.ensures.0, c.requires.1))

pub seal_block-requires-2 : goal.seal_block-requires-2
seal_block-requires-2 c =
    omega (arith, simp length-set at c.seal_block.auto.bundle, c.put_block.ensures.same, c.requires.1)

pub shape_of-bundle : goal.shape_of-bundle
shape_of-bundle c =
    c.seal_block-2.auto.bundle ∙ simp length-set at c.seal_block.auto.bundle
    ∙ c.put_block.ensures.same

pub returns : goal.returns
returns c =
    let args = c.args in
    let n = c.byte-n in
    let put = c.put_block in
    let later = c.seal_block in
    let block-zero = c.seal_block-2 in
    last_put args.bundle.now args.«record».now put.new.bundle later.new.bundle block-zero.new.bundle n.result n.ensures.0
    put.ensures later.ensures block-zero.ensures
