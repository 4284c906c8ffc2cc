-- `members::list` meets its contract.
use Rattle.members.proofs.Prints.{asked}
use Rattle.members.proofs.list.Goals as goal

pub returns : goal.returns
returns c =
    asked c.args.input.now _ _ _ _ _ _ c.bundle_start-start.ensures.0 c.byte-a.ensures.0 c.byte-r.ensures.0
    c.members.ensures
