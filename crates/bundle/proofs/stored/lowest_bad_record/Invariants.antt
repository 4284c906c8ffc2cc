-- `bundle::stored::lowest_bad_record` meets its contract.
use Rattle.bundle.specs.Layout.{bad_record}
use Rattle.base.proofs.Lowest.{Missed}
use Rattle.bundle.proofs.stored.lowest_bad_record.Given as goal

abbrev pub invariant-loop-i : goal.invariant-loop-i
invariant-loop-i l = Missed (bad_record l.bundle) l.i
