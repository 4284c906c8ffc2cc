-- `bundle::layout::beside_wrong` meets its contract.
use mathlib.Core.Path.{sym, ◌∙◌}
use native.Mathlib.Omega.{arith}
use Rattle.bundle.specs.Layout.{beside_wrong}
use Rattle.base.proofs.Lowest.{missed_more, any_hit, any_none}
use Rattle.bundle.proofs.layout.beside_wrong.Goals as goal

pub returns-then-beside_byte_wrong : goal.returns-then-beside_byte_wrong
unfolding beside_wrong
returns-then-beside_byte_wrong c = any_hit _ _ _ (omega arith) c.loop-i.invariant (sym c.beside_byte_wrong.ensures ∙ c.if-beside_byte_wrong.true)

pub loop-i-preserved : goal.loop-i-preserved
loop-i-preserved c = missed_more _ _ c.loop-i.invariant (sym c.beside_byte_wrong.ensures ∙ c.if-beside_byte_wrong.false)

pub returns : goal.returns
unfolding beside_wrong
returns c = any_none _ _ 510 (omega arith) (omega arith) (λ j l. c.loop-i.invariant j (omega arith))
