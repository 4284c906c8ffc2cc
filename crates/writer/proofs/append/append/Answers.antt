-- `writer::append::append` meets its contract.
use native.Mathlib.Omega.{arith}
use mathlib.Core.Path.{refl}
use Rattle.writer.proofs.Kept.{append_ready, append_let, append_put, append_handed}
use Rattle.base.proofs.Refused.{handed_on}
use Rattle.writer.specs.Promise.{Appends}
use Rattle.writer.proofs.append.append.Goals as goal

pub put_last-requires : goal.put_last-requires
put_last-requires c =
    let args = c.args in
    append_ready args.bundle.now args.length args.«record».now
    (append_let args.bundle.now args.length args.«record».now _ c.in_ok-appended.ensures _ refl)

pub returns : goal.returns
returns c =
    let args = c.args in
    append_put args.bundle.now args.length args.«record».now _ c.in_ok-appended.ensures _ _ refl (λ i. omega (arith, c.slice_known-1.given i)) c.put_last.ensures

pub returns-in_err-appended : goal.returns-in_err-appended
returns-in_err-appended c =
    let args = c.args in
    handed_on (λ r. Appends args.bundle.now args.length args.«record».now r args.bundle.now) c.from_residual.ensures
    (append_handed args.bundle.now args.length args.«record».now _ c.in_err-appended.ensures _ _ refl)
