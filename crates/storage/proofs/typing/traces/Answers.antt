-- `storage::typing::traces` meets its contract.
use Rattle.storage.proofs.typing.traces.Goals as goal

pub returns : goal.returns
returns c = rw c.sides_of-name.ensures
