-- `holder_lines::whole::write_lines` meets its contract.
use native.Mathlib.Omega.{arith}
use mathlib.Core.Path.{refl}
use Rattle.holder_lines.proofs.Passes.{few_well, passed_none, passed_few, passed_more, passed_end}
use Rattle.holder_lines.proofs.whole.write_lines.Goals as goal

pub loop-i-init : goal.loop-i-init
loop-i-init c = passed_none _ _

pub overflow_add-well : goal.overflow_add-well
overflow_add-well c =
    omega (arith, passed_few _ _ c.loop-i.invariant, c.well_one-well.ensures, few_well c.stored-said.result)

pub loop-i-preserved : goal.loop-i-preserved
loop-i-preserved c =
    passed_more _ c.loop-i.i _ c.stored-said.ensures c.loop-i.invariant c.write_line-next.ensures c.well_one-well.ensures

pub overflow_sub-ill : goal.overflow_sub-ill
overflow_sub-ill c = omega (arith, passed_few _ _ c.loop-i.invariant)

pub returns : goal.returns
returns c =
    passed_end _ c.loop-i.i _ (omega arith) refl c.loop-i.invariant c.end_line.ensures
