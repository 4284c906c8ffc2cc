-- `types::three_conditions` meets its contract.
use Rattle.types.proofs.three_conditions.Goals as goal

pub returns : goal.returns
returns c = rw (c.well_typed.ensures, c.well_typed-2.ensures)
