-- `writer::judge::judge_append` meets its contract.
use lib.ListN.{length, take}
use Rattle.writer.proofs.Tables.{append_first, append_read, append_record, front_fits, front_few}
use Rattle.base.proofs.Refused.{widened_on}
use Prim.Native.Nat.{◌+◌, ◌*◌}
use Rattle.bundle.specs.Layout.{blocks_for}
use Rattle.writer.specs.Rows.{append_rows, front_records, JudgedAs}
use Rattle.bundle.proofs.Refusals.{reads_accepted}
use Rattle.writer.proofs.judge.judge_append.Goals as goal

pub returns-then-size-length : goal.returns-then-size-length
returns-then-size-length c =
    rw c.at.ensures (append_first c.args.bundle.now c.args.length c.args.«record».now _ c.if-size-length.true)

pub read_front-requires : goal.read_front-requires
read_front-requires c =
    let args = c.args in
    front_fits (length args.bundle.now) args.length (length args.«record».now) c.if-size-length.false

pub judge_record-requires : goal.judge_record-requires
judge_record-requires c =
    let args = c.args in
    let front = take args.length args.bundle.now in
    front_few front _ (reads_accepted front _ c.in_ok-sizes.ensures)

pub returns : goal.returns
returns c =
    let args = c.args in
    let front = take args.length args.bundle.now in
    append_record args.bundle.now args.length args.«record».now c.if-size-length.false _ c.judge_record.result
    (reads_accepted front _ c.in_ok-sizes.ensures) c.judge_record.ensures

pub returns-in_err-sizes : goal.returns-in_err-sizes
returns-in_err-sizes c =
    let args = c.args in
    let buffer = args.bundle.now in
    let length = 512 * blocks_for (front_records buffer args.length + 1) in
    widened_on (λ r. JudgedAs (append_rows buffer args.length args.«record».now) r length) c.from_residual.ensures
    (append_read buffer args.length args.«record».now c.if-size-length.false length _ _ c.in_err-sizes.ensures)
