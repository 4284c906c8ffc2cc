-- `letters::out_of_range` meets its contract.
use Rattle.letters.proofs.out_of_range.Goals as goal

pub returns : goal.returns
returns c = rw (c.outside.ensures, c.outside-2.ensures)
