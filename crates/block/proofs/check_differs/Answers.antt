-- `block::check_differs` meets its contract.
use Rattle.block.proofs.Weighed.{differs}
use Rattle.block.proofs.check_differs.Goals as goal

pub returns : goal.returns
returns c = differs _ _ _ _ c.check.ensures c.byte.ensures.0 c.byte-2.ensures.0
