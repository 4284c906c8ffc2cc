-- `search::slip::write_rounds` meets its contract. The invariant: the words said are those after so many rounds.
use mathlib.Core.Path.{◌∙◌}
use Rattle.bundle.specs.Held.{held}
use Rattle.ledger.proofs.Steps.{extended_same, extended_twice, writing_words}
use Rattle.search.proofs.Finishing.{times_none, times_more, last_line}
use Rattle.search.proofs.slip.write_rounds.Goals as goal

pub loop-round-init : goal.loop-round-init
loop-round-init c =
    let args = c.args in
    let pre = c.requires in
    (pre.0, extended_same pre.0.ledger, pre.3, times_none args.sizes.entities (held args.bundle.now) _)

pub returns-then-index-goal-ne0 : goal.returns-then-index-goal-ne0
returns-then-index-goal-ne0 c =
    let step = c.one_round-count.ensures in
    last_line _ (extended_twice c.loop-round.invariant.1 step.extended) step.last c.if-index-goal-ne0.true

pub loop-round-preserved : goal.loop-round-preserved
loop-round-preserved c =
    let args = c.args in
    let inv = c.loop-round.invariant in
    let step = c.one_round-count.ensures in
    let words = step.otherwise c.if-index-goal-ne0.false in (
      writing_words inv.0 step.extended _ (c.one_round-count.auto.said ∙ inv.0.words) words.1,
      extended_twice inv.1 step.extended,
      record { inside = inv.2.inside; none = c.if-index-goal-ne0.false },
      times_more args.sizes.entities (held args.bundle.now) _ _ _ _ inv.3 words.0,
    )
