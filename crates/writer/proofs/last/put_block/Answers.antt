-- `writer::last::put_block` meets its contract.
use Rattle.writer.proofs.Filling.{record_put}
use Rattle.writer.proofs.last.put_block.Goals as goal

pub returns : goal.returns
returns c =
    record_put c.args.bundle.now c.args.n c.args.«record».now c.put_record.new.bytes c.requires.1
    c.put_record.ensures

pub shape_of-bundle : goal.shape_of-bundle
shape_of-bundle c = (returns c).same
