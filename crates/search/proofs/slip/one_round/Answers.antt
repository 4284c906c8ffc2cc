-- `search::slip::one_round` meets its contract. The invariant: the words said are those after the first records.
use native.Mathlib.Omega.{arith}
use borrow.Author.Rules.{rules}
use Rattle.ledger.proofs.Steps.{extended_same, extended_twice, progress_stop, progress_end}
use Rattle.words.proofs.Filling.{copied_same}
use Rattle.tables.proofs.Rounds.{round_none, round_more, round_all}
use Rattle.bundle.specs.Held.{held}
use Rattle.search.proofs.slip.one_round.Goals as goal

pub loop-n-init : goal.loop-n-init
loop-n-init c =
    let pre = c.requires in (
      extended_same pre.0.ledger,
      pre.3,
      round_none c.args.sizes.entities (held c.args.bundle.now) _,
      pre.0.backed,
      copied_same _ _ c.copy.ensures (search rules),
    )

pub returns-then-index-goal-ne0 : goal.returns-then-index-goal-ne0
returns-then-index-goal-ne0 c =
    let inv = c.loop-n.invariant in
    let step = c.use_record-count.ensures.1 in
    progress_stop _ (extended_twice inv.0 step.extended) step.last c.if-index-goal-ne0.true

pub loop-n-preserved : goal.loop-n-preserved
loop-n-preserved c =
    let inv = c.loop-n.invariant in
    let pre = c.requires in
    let step = c.use_record-count.ensures in (
      extended_twice inv.0 step.1.extended,
      record { inside = inv.1.inside; none = c.if-index-goal-ne0.false },
      round_more _ pre.0.accepts _ (omega (arith, pre.1, c.loop-n-test.true)) inv.2 (rw inv.4 at step.0),
      step.1.otherwise c.if-index-goal-ne0.false,
      inv.4,
    )

pub returns : goal.returns
returns c =
    let pre = c.requires in
    let inv = c.loop-n.invariant in
    progress_end inv.0 inv.1
    (round_all _ pre.0.accepts _ c.loop-n.n (omega (arith, pre.1, c.loop-n-test.false)) inv.2, inv.3)
