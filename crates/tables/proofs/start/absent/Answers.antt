-- `tables::start::absent` meets its contract. The invariant: the word is that of the absent ones of the first i entities.
use native.Mathlib.Omega.{arith}
use mathlib.Core.Path.{◌∙◌}
use Rattle.rt0.proofs.BitsBelow.{bits_none}
use Rattle.tables.specs.Open.{absent_word}
use Rattle.tables.proofs.Opened.{absent_more, absent_other}
use Rattle.tables.proofs.start.absent.Goals as goal
use Rattle.tables.proofs.start.absent.Goals.{then-is_absent, else-is_absent}

pub loop-i-init : goal.loop-i-init
unfolding absent_word
loop-i-init c = bits_none _

pub loop-i-preserved : goal.loop-i-preserved
loop-i-preserved c =
    let e = c.loop-i.invariant in
    let q = c.is_absent.ensures in
    elim c.if-is_absent.branch [
      | then-is_absent w ↦ w.word-is ∙ absent_more _ _ _ e _ q (omega arith) w.if-is_absent.true
      | else-is_absent w ↦ w.word-is ∙ absent_other _ _ _ e _ q w.if-is_absent.false
    ]
