-- `bundle::checks::bad_check` meets its contract.
use Rattle.block.specs.Block.{check_wrong}
use Rattle.bundle.proofs.Parts.{at_part}
use Rattle.bundle.proofs.checks.bad_check.Goals as goal

pub returns : goal.returns
returns c =
    let args = c.args in
    at_part check_wrong args.bundle.now args.k _ c.check_differs.ensures
