-- `sheet::layout_wrong` meets its contract.
use Rattle.sheet.specs.Wrong.{wrong_at}
use Rattle.base.proofs.Lowest.{Missed}
use Rattle.sheet.proofs.layout_wrong.Given as goal

abbrev pub invariant-loop-i : goal.invariant-loop-i
invariant-loop-i l = Missed (wrong_at l.names l.sheet) l.i
