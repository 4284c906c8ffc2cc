-- `lines_from_bundle::gather` meets its contract.
use Rattle.text.specs.Written.{Wrote}
use Rattle.lines_from_bundle.specs.Gathered.{gathered}
use Rattle.lines_from_bundle.proofs.gather.Given as goal

abbrev pub invariant-loop-i : goal.invariant-loop-i
invariant-loop-i l = Wrote l.initial.records 0 (gathered l.bundle l.i) l.records l.at
