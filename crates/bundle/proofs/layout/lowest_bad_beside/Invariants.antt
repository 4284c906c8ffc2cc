-- `bundle::layout::lowest_bad_beside` meets its contract.
use Rattle.bundle.specs.Layout.{bad_beside}
use Rattle.base.proofs.Lowest.{Missed}
use Rattle.bundle.proofs.layout.lowest_bad_beside.Given as goal

abbrev pub invariant-loop-j : goal.invariant-loop-j
invariant-loop-j l = Missed (bad_beside l.bundle) l.j
