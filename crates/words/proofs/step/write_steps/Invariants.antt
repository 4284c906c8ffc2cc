-- `words::step::write_steps` meets its contract. The invariant: the first n steps are those of the first n records.
use Rattle.words.specs.Step.{Stepped}
use Rattle.words.proofs.step.write_steps.Given as goal

abbrev pub invariant-loop-n : goal.invariant-loop-n
invariant-loop-n l = Stepped l.bundle l.n l.steps
