-- `bundle::layout::first_byte_wrong` meets its contract.
use Rattle.bundle.proofs.layout.first_byte_wrong.Goals as goal

pub returns : goal.returns
returns c =
    rw (c.outside.ensures, c.outside-2.ensures, c.byte-b.ensures.0, c.byte-entities.ensures.0)
