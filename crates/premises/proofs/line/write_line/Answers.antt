-- `premises::line::write_line` meets its contract.
use Rattle.premises.proofs.line.write_line.Goals as goal

pub returns : goal.returns
returns c = rw (← c.premises_of-premises.ensures) c.put.ensures
