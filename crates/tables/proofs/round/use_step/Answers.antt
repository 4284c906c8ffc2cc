-- `tables::round::use_step` meets its contract.
use Rattle.tables.proofs.round.use_step.Goals as goal

pub returns : goal.returns
returns c = rw (c.gain-gained.ensures.0, c.gain-gained.ensures.1)
