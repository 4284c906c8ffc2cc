-- `roles::list` meets its contract.
use Rattle.roles.proofs.Prints.{asked}
use Rattle.roles.proofs.list.Goals as goal

pub returns : goal.returns
returns c =
    asked c.args.input.now _ _ _ _ _ c.bundle_start-start.ensures.0 c.byte-d.ensures.0 c.roles.ensures
