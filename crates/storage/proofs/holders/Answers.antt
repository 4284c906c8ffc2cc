-- `storage::holders` meets its contract.
use mathlib.Core.Path.{sym, ◌∙◌}
use Rattle.bundle.proofs.Refusals.{reads_accepted}
use Rattle.storage.proofs.Refusals.{reader_refused, sheet_refused, record_refused, record_answered}
use Rattle.base.proofs.Refused.{handed_on}
use Rattle.storage.specs.Promise.{StoragePromise}
use Rattle.storage.proofs.holders.Goals as goal

pub returns-then-not-sheet_right : goal.returns-then-not-sheet_right
returns-then-not-sheet_right c =
    let args = c.args in
    rw c.at.ensures (sheet_refused args.bundle.now args.sheet.now args.number _ (reads_accepted _ _ c.in_ok-sizes.ensures) _ c.right-sheet_right.ensures c.if-not-sheet_right.true)

pub returns-then-no_record : goal.returns-then-no_record
returns-then-no_record c =
    let args = c.args in
    rw c.at-then-no_record.ensures (record_refused args.bundle.now args.sheet.now args.number _ (reads_accepted _ _ c.in_ok-sizes.ensures) _ c.right-sheet_right.ensures c.if-not-sheet_right.false
    (sym c.outside-no_record.ensures ∙ c.if-no_record.true))

pub returns : goal.returns
returns c =
    let args = c.args in
    record_answered args.bundle.now args.sheet.now args.number _ (reads_accepted _ _ c.in_ok-sizes.ensures) _ c.right-sheet_right.ensures
    c.if-not-sheet_right.false (sym c.outside-no_record.ensures ∙ c.if-no_record.false) _ c.stored.ensures

pub returns-in_err-sizes : goal.returns-in_err-sizes
returns-in_err-sizes c =
    let args = c.args in
    handed_on (StoragePromise args.bundle.now args.sheet.now args.number) c.from_residual.ensures
    (reader_refused args.bundle.now args.sheet.now args.number _ _ c.in_err-sizes.ensures)
