-- `with_sheet::fill_with_sheet` meets its contract.
use Rattle.tables.specs.Promise.{tables}
use Rattle.with_sheet.proofs.Judging.{not_right, tables_judged, tables_refused, tables_wrong_lem}
use Rattle.base.proofs.Refused.{handed_on}
use Rattle.with_sheet.specs.Promise.{SheetTables}
use Rattle.with_sheet.proofs.fill_with_sheet.Goals as goal

pub returns-then-right : goal.returns-then-right
returns-then-right c =
    let args = c.args in
    let right = rw c.sizes_of-sizes.ensures.0 at (c.right.ensures.0 c.if-right.true) in
    tables_judged args.bundle.now args.sheet.now right _ c.loose_names.ensures _ _ _ c.fill_opening.ensures

pub returns : goal.returns
returns c =
    let args = c.args in
    let tells = rw c.sizes_of-sizes.ensures.0 at c.right.ensures in
    rw c.at.ensures (tables_wrong_lem args.bundle.now args.sheet.now (tables args.sure.now args.possible.now) _
    c.in_ok-read.ensures (not_right tells c.if-right.false))

pub returns-in_err-read : goal.returns-in_err-read
returns-in_err-read c =
    let args = c.args in
    let before = tables args.sure.now args.possible.now in
    handed_on (SheetTables args.bundle.now args.sheet.now before before) c.from_residual.ensures
    (tables_refused args.bundle.now args.sheet.now before _ _ c.in_err-read.ensures)
