-- `types::link` meets its contract.
use Rattle.types.proofs.link.Goals as goal

pub returns : goal.returns
returns c = rw (c.well_typed.ensures, c.well_typed-2.ensures)
