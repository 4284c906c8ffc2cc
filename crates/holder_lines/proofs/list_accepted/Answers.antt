-- `holder_lines::list_accepted` meets its contract.
use native.Mathlib.Omega.{arith}
use Rattle.bundle.proofs.Accepted.{accepted_contents}
use Rattle.holder_lines.proofs.Promised.{sheet_refused, short_refused, text_given}
use Rattle.holder_lines.proofs.list_accepted.Goals as goal

pub returns-then-not-right : goal.returns-then-not-right
returns-then-not-right c =
    let args = c.args in
    rw c.at.ensures (sheet_refused args.bundle.now args.sheet.now args.text.now args.sizes c.requires _ c.right.ensures
    (c.if-not-right.true))

pub returns-then-text-lt-BYTES : goal.returns-then-text-lt-BYTES
returns-then-text-lt-BYTES c =
    let args = c.args in
    rw c.at-then-text-lt-BYTES.ensures (short_refused args.bundle.now args.sheet.now args.text.now args.sizes c.requires _ c.right.ensures
    (c.if-not-right.false) (omega (arith, c.if-text-lt-BYTES.true)))

pub write_lines-requires : goal.write_lines-requires
write_lines-requires c =
    omega (arith, (accepted_contents _ _ c.requires).records_most)

pub returns : goal.returns
returns c =
    let args = c.args in
    text_given args.bundle.now args.sheet.now args.text.now args.sizes c.requires _ c.right.ensures
    (c.if-not-right.false) (omega (arith, c.if-text-lt-BYTES.false)) c.write_lines.ensures
