-- `sheet::byte_wrong` meets its contract.
use Rattle.sheet.proofs.byte_wrong.Goals as goal

pub returns : goal.returns
returns c = rw (c.outside.ensures, c.byte-b.ensures.0)
