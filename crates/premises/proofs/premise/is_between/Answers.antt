-- `premises::premise::is_between` meets its contract.
use Rattle.premises.proofs.premise.is_between.Goals as goal

pub returns : goal.returns
returns c = rw c.word-held.ensures
