-- `writer::fill::fill_block` meets its contract.
use Prim.Native.Nat.{◌+◌}
use mathlib.Core.Path.{◌∙◌, ap}
use lib.ListN.{length}
use Rattle.writer.proofs.Filling.{block_put, block_size}
use Rattle.writer.proofs.fill.fill_block.Goals as goal

pub returns : goal.returns
returns c =
    let args = c.args in
    block_put args.bundle.now (args.j + 1) c.fill_records.new.bytes _ c.fill_records.ensures

pub shape_of-bundle : goal.shape_of-bundle
shape_of-bundle c =
    ap length (returns c) ∙ block_size c.args.bundle.now (c.args.j + 1) _ c.requires.1
