-- `writer::write::write` meets its contract.
use mathlib.Core.Path.{refl}
use Rattle.writer.proofs.Kept.{write_let, write_filled, write_handed}
use Rattle.base.proofs.Refused.{handed_on}
use Rattle.writer.specs.Promise.{Writes}
use Rattle.writer.proofs.write.write.Goals as goal

pub fill-requires : goal.fill-requires
fill-requires c =
    let args = c.args in
    let clear = write_let args.entities args.names args.marks.now args.records.now args.bundle.now _ c.in_ok-length.ensures _ refl in
    (clear.whole, clear.few, clear.room)

pub returns : goal.returns
returns c =
    let args = c.args in
    write_filled args.entities args.names args.marks.now args.records.now args.bundle.now _ c.in_ok-length.ensures _ _ refl c.fill.ensures

pub returns-in_err-length : goal.returns-in_err-length
returns-in_err-length c =
    let args = c.args in
    handed_on (λ r. Writes args.entities args.names args.marks.now args.records.now args.bundle.now r args.bundle.now) c.from_residual.ensures
    (write_handed args.entities args.names args.marks.now args.records.now args.bundle.now _ c.in_err-length.ensures _ _ refl)
