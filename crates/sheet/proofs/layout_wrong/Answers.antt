-- `sheet::layout_wrong` meets its contract.
use mathlib.Core.Path.{sym, ◌∙◌}
use native.Mathlib.Omega.{arith}
use Rattle.sheet.specs.Wrong.{layout_wrong}
use Rattle.base.proofs.Lowest.{missed_more, any_hit, any_none}
use Rattle.sheet.proofs.layout_wrong.Goals as goal

pub returns-then-byte_wrong : goal.returns-then-byte_wrong
unfolding layout_wrong
returns-then-byte_wrong c = any_hit _ _ _ (omega arith) c.loop-i.invariant (sym c.byte_wrong.ensures ∙ c.if-byte_wrong.true)

pub loop-i-preserved : goal.loop-i-preserved
loop-i-preserved c = missed_more _ _ c.loop-i.invariant (sym c.byte_wrong.ensures ∙ c.if-byte_wrong.false)

pub returns : goal.returns
unfolding layout_wrong
returns c = any_none _ _ 510 (omega arith) (omega arith) (λ j l. c.loop-i.invariant j (omega arith))
