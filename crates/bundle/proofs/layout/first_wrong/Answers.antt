-- `bundle::layout::first_wrong` meets its contract.
use mathlib.Core.Path.{sym, ◌∙◌}
use native.Mathlib.Omega.{arith}
use Rattle.base.proofs.Lowest.{missed_more, any_hit, any_none}
use Rattle.bundle.proofs.Stages.{first_found}
use Rattle.bundle.proofs.layout.first_wrong.Goals as goal

pub returns-then-first_byte_wrong : goal.returns-then-first_byte_wrong
returns-then-first_byte_wrong c =
    first_found _ _ _ _ c.byte.ensures.0 c.edition_for-edition.ensures
    (any_hit _ _ _ (omega arith) c.loop-i.invariant (sym c.first_byte_wrong.ensures ∙ c.if-first_byte_wrong.true))

pub loop-i-preserved : goal.loop-i-preserved
loop-i-preserved c = missed_more _ _ c.loop-i.invariant (sym c.first_byte_wrong.ensures ∙ c.if-first_byte_wrong.false)

pub returns : goal.returns
returns c =
    first_found _ _ _ _ c.byte.ensures.0 c.edition_for-edition.ensures
    (any_none _ _ 510 (omega arith) (omega arith) (λ j l. c.loop-i.invariant j (omega arith)))
