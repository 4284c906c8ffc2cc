-- `candidates::find::parts` meets its contract.
use Rattle.candidates.proofs.Found.{parts_two, parts_three}
use Rattle.candidates.proofs.find.parts.Goals as goal

pub returns-then-has : goal.returns-then-has
returns-then-has c =
    let args = c.args in
    parts_three args.line.now args.a args.r args.b args.s args.at _ _ c.after-name.ensures.0 c.after-end.ensures.0 _ _
    c.number_at-c.ensures c.number_at-t.ensures _ c.has.ensures c.if-has.true _ _ _ c.after-last.ensures.0
    c.number_at-d.ensures c.number_at-u.ensures

pub returns-else-has : goal.returns-else-has
returns-else-has c =
    let args = c.args in
    parts_two args.line.now args.a args.r args.b args.s args.at _ _ c.after-name.ensures.0 c.after-end.ensures.0 _ _
    c.number_at-c.ensures c.number_at-t.ensures _ c.has.ensures c.if-has.false
