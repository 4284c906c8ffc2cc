-- `with_sheet::search_with_sheet` meets its contract.
use Rattle.search.specs.Promise.{lent}
use Rattle.with_sheet.proofs.Judging.{not_right, search_judged, search_refused, search_wrong}
use Rattle.base.proofs.Refused.{handed_on}
use Rattle.answers.specs.Answer.{outcome_of}
use Rattle.with_sheet.specs.Promise.{SheetSearch}
use Rattle.with_sheet.proofs.search_with_sheet.Goals as goal

pub returns-then-right : goal.returns-then-right
returns-then-right c =
    let args = c.args in
    let right = rw c.sizes_of-sizes.ensures.0 at (c.right.ensures.0 c.if-right.true) in
    search_judged args.bundle.now args.sheet.now right _ c.loose_names.ensures _ _ _ _ c.search_opening.ensures

pub returns : goal.returns
returns c =
    let args = c.args in
    let before = lent args.sure.now args.possible.now args.slip.now in
    let tells = rw c.sizes_of-sizes.ensures.0 at c.right.ensures in
    rw c.at.ensures (search_wrong args.bundle.now args.sheet.now args.question before _
    c.in_ok-read.ensures (not_right tells c.if-right.false))

pub returns-in_err-read : goal.returns-in_err-read
returns-in_err-read c =
    let args = c.args in
    let before = lent args.sure.now args.possible.now args.slip.now in
    handed_on (λ r. SheetSearch args.bundle.now args.sheet.now args.question before before (outcome_of r)) c.from_residual.ensures
    (search_refused args.bundle.now args.sheet.now args.question before _ _ c.in_err-read.ensures)
