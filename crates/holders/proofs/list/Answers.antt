-- `holders::list` meets its contract.
use mathlib.Core.Path.{sym}
use lib.Seq.{length-take-le}
use Rattle.holders.proofs.Prints.{asked}
use Rattle.holders.proofs.list.Goals as goal

pub slice_bounds-list-end-2 : goal.slice_bounds-list-end-2
slice_bounds-list-end-2 c = sym (length-take-le _ _ c.bundle_start-start.ensures.1)

pub returns : goal.returns
returns c =
    asked c.args.input.now _ _ _ _ c.bundle_start-start.ensures.0 c.list.ensures
