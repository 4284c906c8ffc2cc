-- `candidates::find::candidate` meets its contract.
use Rattle.candidates.proofs.Found.{head_found, head_none}
use mathlib.Core.Path.{◌∙◌}
use Rattle.candidates.proofs.find.candidate.Goals as goal

pub returns-then-has : goal.returns-then-has
returns-then-has c =
    c.body.ensures
    ∙ head_found c.args.line.now _ _ c.after-name.ensures.0 c.after-end.ensures.0 _ c.has.ensures c.if-has.true _ _
    c.number_at.ensures c.number_at-then-has.ensures

pub returns-else-has : goal.returns-else-has
returns-else-has c =
    head_none c.args.line.now _ _ c.after-name.ensures.0 c.after-end.ensures.0 _ c.has.ensures c.if-has.false
