-- `writer::fill::fill` meets its contract. The invariant: whatever block 0 is, the record blocks passed stand behind it.
use Rattle.writer.proofs.Filling.{Continues}
use Rattle.writer.proofs.fill.fill.Given as goal

abbrev pub invariant-loop-j : goal.invariant-loop-j
invariant-loop-j l = Continues l.records l.j l.initial.bundle l.bundle
