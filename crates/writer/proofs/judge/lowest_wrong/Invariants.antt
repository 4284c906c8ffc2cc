-- `writer::judge::lowest_wrong` meets its contract. The invariant: no record passed is wrong.
use Rattle.base.proofs.Lowest.{Missed}
use Rattle.writer.specs.Rows.{wrong_listed}
use Rattle.writer.proofs.judge.lowest_wrong.Given as goal

abbrev pub invariant-loop-i : goal.invariant-loop-i
invariant-loop-i l = Missed (wrong_listed l.entities l.names l.records) l.i
