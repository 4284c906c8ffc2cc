-- `search::answer::holds` meets its contract.
use Rattle.search.proofs.answer.holds.Goals as goal

pub returns : goal.returns
returns c = rw c.word.ensures
