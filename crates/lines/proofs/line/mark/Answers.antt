-- `lines::line::mark` meets its contract. The check finds both by itself: the answers are here to show which fact an edit of `mark` makes false.
use mathlib.Core.Path.{refl}
use Rattle.lines.proofs.Growing.{marked_sure, marked_maybe}
use Rattle.lines.proofs.line.mark.Goals as goal

pub returns-then-sure : goal.returns-then-sure
returns-then-sure c = marked_sure _ c.if-sure.true c.word.ensures refl refl

pub returns : goal.returns
returns c = marked_maybe _ c.if-sure.false c.word-2.ensures refl refl
