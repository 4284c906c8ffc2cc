-- `with_sheet::loose_names` meets its contract. The invariant: the word is that of the first i names.
use native.Mathlib.Omega.{arith}
use mathlib.Core.Path.{◌∙◌}
use Rattle.rt0.proofs.BitsBelow.{bits_none}
use Rattle.with_sheet.specs.Open.{loose_word}
use Rattle.with_sheet.proofs.Loosened.{loose_one, loose_other}
use Rattle.with_sheet.proofs.loose_names.Goals as goal
use Rattle.with_sheet.proofs.loose_names.Goals.{then-code, else-code}

pub loop-i-init : goal.loop-i-init
unfolding loose_word
loop-i-init c = bits_none _

pub loop-i-preserved : goal.loop-i-preserved
loop-i-preserved c =
    let e = c.loop-i.invariant in
    let is = c.code_of-code.ensures.0 in
    elim c.if-code.branch [
      | then-code w ↦ w.names-is ∙ loose_one _ _ _ _ e is (omega arith) w.if-code.true
      | else-code w ↦ w.names-is ∙ loose_other _ _ _ _ e is w.if-code.false
    ]
