-- `search::answer::work_out` meets its contract.
use Rattle.tables.proofs.Told.{filled_told}
use Rattle.search.proofs.Concluding.{sure_shown, answered_with}
use Rattle.base.proofs.Refused.{handed_on}
use Rattle.answers.specs.Answer.{outcome_of}
use Rattle.tables.specs.Open.{open_names}
use Rattle.tables.specs.Promise.{tables}
use Rattle.search.specs.Promise.{lent, PromiseWith}
use Rattle.search.proofs.Judging.{lent_enough, asked_of, refused_tables, answered_rightly}
use Rattle.search.proofs.answer.work_out.Goals as goal

pub conclude-answer-requires : goal.conclude-answer-requires
conclude-answer-requires c =
    let (accepts, filled) = filled_told _ _ _ _ _ _ c.in_ok-filled.ensures in
    let enough = lent_enough (lent c.args.sure.now c.args.possible.now c.args.slip.now) c.requires.1 in
    (asked_of _ _ _ accepts c.requires.0, sure_shown filled, enough.slip)

pub returns : goal.returns
returns c =
    let (accepts, filled) = filled_told _ _ _ _ _ _ c.in_ok-filled.ensures in
    let pre = c.requires in
    answered_rightly _ _ _ _ _ _ pre.1 _ _ _ accepts pre.0 (answered_with filled (c.conclude-answer.ensures _ filled.possible.shows))

pub returns-in_err-filled : goal.returns-in_err-filled
returns-in_err-filled c =
    let args = c.args in
    let before = lent args.sure.now args.possible.now args.slip.now in
    let is_open = open_names args.names args.bundle.now in
    let after = tables c.fill_opening.new.sure c.fill_opening.new.possible in
    handed_on (λ r. PromiseWith is_open args.bundle.now args.question before (lent after.sure after.possible args.slip.now) (outcome_of r)) c.from_residual.ensures
    (refused_tables is_open args.bundle.now args.question args.sure.now args.possible.now args.slip.now c.requires.1 after _ _ c.in_err-filled.ensures)
