-- `bundle::layout::beside_byte_wrong` meets its contract.
use Rattle.bundle.proofs.layout.beside_byte_wrong.Goals as goal

pub returns : goal.returns
returns c = rw c.byte-b.ensures.0
