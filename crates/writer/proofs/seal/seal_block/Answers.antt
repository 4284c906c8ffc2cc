-- `writer::seal::seal_block` meets its contract.
use mathlib.Core.Path.{◌∙◌, ap}
use lib.ListN.{length}
use Rattle.writer.proofs.Filling.{seal_put, sealed_size}
use Rattle.writer.proofs.seal.seal_block.Goals as goal

pub returns : goal.returns
returns c =
    let args = c.args in
    seal_put args.bundle.now args.k c.seal.new.bytes c.seal.ensures

pub shape_of-bundle : goal.shape_of-bundle
shape_of-bundle c =
    ap length (returns c) ∙ sealed_size c.args.bundle.now c.args.k c.requires
