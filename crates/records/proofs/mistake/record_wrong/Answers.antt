-- `records::mistake::record_wrong` meets its contract.
use Rattle.records.specs.Mistake.{mistake_kind}
use Rattle.records.proofs.mistake.record_wrong.Goals as goal

pub returns : goal.returns
unfolding mistake_kind
returns c = rw c.first_kind.ensures
