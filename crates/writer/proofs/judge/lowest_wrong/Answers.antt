-- `writer::judge::lowest_wrong` meets its contract. The invariant: no record passed is wrong.
use mathlib.Core.Path.{sym, ◌∙◌}
use native.Mathlib.Omega.{arith}
use Rattle.base.proofs.Lowest.{missed_more, lowest_hit, lowest_none}
use Rattle.writer.proofs.judge.lowest_wrong.Goals as goal

pub returns-then-wrong_at : goal.returns-then-wrong_at
returns-then-wrong_at c = lowest_hit _ _ _ (omega arith) c.loop-i.invariant (sym c.wrong_at.ensures ∙ c.if-wrong_at.true)

pub loop-i-preserved : goal.loop-i-preserved
loop-i-preserved c = missed_more _ _ c.loop-i.invariant (sym c.wrong_at.ensures ∙ c.if-wrong_at.false)

pub returns : goal.returns
returns c = lowest_none _ _ _ (omega arith) (omega arith) (λ j l. c.loop-i.invariant j (omega arith))
