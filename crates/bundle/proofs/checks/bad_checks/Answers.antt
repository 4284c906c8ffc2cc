-- `bundle::checks::bad_checks` meets its contract. The invariant: the bits say of the first k blocks whether their checks differ.
use native.Mathlib.Omega.{arith}
use mathlib.Core.Path.{sym, ◌∙◌}
use Rattle.rt0.proofs.BitsBelow.{bits_none, bits_one, bits_other}
use Rattle.bundle.proofs.checks.bad_checks.Goals as goal
use Rattle.bundle.proofs.checks.bad_checks.Goals.{then-bad_check, else-bad_check}

pub loop-k-init : goal.loop-k-init
loop-k-init c = bits_none _

pub loop-k-preserved : goal.loop-k-preserved
loop-k-preserved c =
    let told = sym c.bad_check.ensures in
    elim c.if-bad_check.branch [
      | then-bad_check w ↦ w.word-is ∙ bits_one _ _ _ c.loop-k.invariant 16 (omega arith) (told ∙ w.if-bad_check.true)
      | else-bad_check w ↦ w.word-is ∙ bits_other _ _ _ c.loop-k.invariant (told ∙ w.if-bad_check.false)
    ]
