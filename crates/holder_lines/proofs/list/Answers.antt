-- `holder_lines::list` meets its contract.
use Rattle.bundle.proofs.Refusals.{reads_accepted}
use Rattle.base.proofs.Refused.{handed_on}
use Rattle.holder_lines.specs.Promise.{HoldersPromise}
use Rattle.holder_lines.proofs.Promised.{reader_refused}
use Rattle.holder_lines.proofs.list.Goals as goal

pub list_accepted-requires : goal.list_accepted-requires
list_accepted-requires c = reads_accepted _ _ c.in_ok-sizes.ensures

pub returns : goal.returns
returns c = c.list_accepted.ensures

pub returns-in_err-sizes : goal.returns-in_err-sizes
returns-in_err-sizes c =
    let args = c.args in
    handed_on (HoldersPromise args.bundle.now args.sheet.now args.text.now args.text.now) c.from_residual.ensures
    (reader_refused args.bundle.now args.sheet.now args.text.now _ _ c.in_err-sizes.ensures)
