-- `bundle::stored::lowest_bad_record` meets its contract.
use mathlib.Core.Path.{sym, ◌∙◌}
use native.Mathlib.Omega.{arith}
use Rattle.base.proofs.Lowest.{missed_more, lowest_hit, lowest_none}
use Rattle.bundle.proofs.stored.lowest_bad_record.Goals as goal

pub returns-then-bad_record : goal.returns-then-bad_record
returns-then-bad_record c = lowest_hit _ _ _ (omega arith) c.loop-i.invariant (sym c.bad_record.ensures ∙ c.if-bad_record.true)

pub loop-i-preserved : goal.loop-i-preserved
loop-i-preserved c = missed_more _ _ c.loop-i.invariant (sym c.bad_record.ensures ∙ c.if-bad_record.false)

pub returns : goal.returns
returns c = lowest_none _ _ _ (omega arith) (omega arith) (λ j l. c.loop-i.invariant j (omega arith))
