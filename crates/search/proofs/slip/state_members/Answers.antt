-- `search::slip::state_members` meets its contract. The invariant: the members before i have lines.
use Rattle.ledger.proofs.Steps.{extended_twice, progress_stop, stated_more}
use Rattle.search.proofs.slip.state_members.Goals as goal

pub returns-then-index-goal-ne0 : goal.returns-then-index-goal-ne0
returns-then-index-goal-ne0 c =
    let inv = c.loop-i.invariant in
    let step = c.state-count.ensures in
    progress_stop _ (extended_twice inv.0 step.extended) (step.newest _ inv.1.none) c.if-index-goal-ne0.true

pub loop-i-preserved : goal.loop-i-preserved
loop-i-preserved c =
    let given = c.args.given in
    let inv = c.loop-i.invariant in
    let step = c.state-count.ensures in (
      extended_twice inv.0 step.extended,
      record { inside = inv.1.inside; none = c.if-index-goal-ne0.false },
      stated_more given.first given.word _ step inv.2,
    )
