-- `bundle::layout::lowest_bad_beside` meets its contract.
use mathlib.Core.Path.{sym, ◌∙◌}
use native.Mathlib.Omega.{arith}
use Rattle.base.proofs.Lowest.{missed_more, lowest_hit, lowest_none}
use Rattle.bundle.proofs.layout.lowest_bad_beside.Goals as goal

pub returns-then-bad_beside : goal.returns-then-bad_beside
returns-then-bad_beside c = lowest_hit _ _ _ (omega arith) c.loop-j.invariant (sym c.bad_beside.ensures ∙ c.if-bad_beside.true)

pub loop-j-preserved : goal.loop-j-preserved
loop-j-preserved c = missed_more _ _ c.loop-j.invariant (sym c.bad_beside.ensures ∙ c.if-bad_beside.false)

pub returns : goal.returns
returns c = lowest_none _ _ _ (omega arith) (omega arith) (λ j l. c.loop-j.invariant j (omega arith))
