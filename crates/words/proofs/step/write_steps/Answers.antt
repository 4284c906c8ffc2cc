-- `words::step::write_steps` meets its contract. The invariant: the first n steps are those of the first n records.
use native.Mathlib.Numerals.{add-one}
use borrow.Author.Rules.{rules}
use Rattle.words.proofs.Stepped.{steps_more}
use Rattle.words.proofs.step.write_steps.Goals as goal

pub loop-n-preserved : goal.loop-n-preserved
loop-n-preserved c =
    let made = rw (c.record_at.ensures, add-one) at c.step_of.ensures in
    steps_more _ c.loop-n.steps c.loop-n.n _ (search rules) made c.loop-n.invariant
