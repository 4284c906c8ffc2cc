-- `holder_lines::whole::write_lines` meets its contract.
use Rattle.holder_lines.specs.Text.{said_in}
use Rattle.holder_lines.specs.Passing.{Passed}
use Rattle.holder_lines.proofs.whole.write_lines.Given as goal

abbrev pub invariant-loop-i : goal.invariant-loop-i
invariant-loop-i l = Passed (said_in l.bundle l.sheet) l.i l.initial.text l.text l.next l.well
