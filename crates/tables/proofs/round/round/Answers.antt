-- `tables::round::round` meets its contract. The invariant: the words are those after one use of each of the first steps.
use borrow.Author.Rules.{rules}
use lib.Seq.{get_or-take}
use Rattle.words.proofs.Stepped.{use_none, use_more}
use Rattle.tables.proofs.round.round.Goals as goal

pub loop-step-init : goal.loop-step-init
loop-step-init c =
    let args = c.args in
    use_none args.entities args.steps.now args.from.now args.to.now

pub loop-step-preserved : goal.loop-step-preserved
loop-step-preserved c =
    let args = c.args in
    let i = c.loop-step.step-index in
    use_more args.entities args.steps.now args.from.now args.to.now i c.loop-step.invariant
    (rw (get_or-take args.count args.steps.now i 0 (search rules)) at c.use_step.ensures)
