-- `writer::judge::judge_list` meets its contract.
use Rattle.writer.proofs.Tables.{list_passed, list_refused}
use Rattle.base.proofs.Refused.{handed_on}
use Prim.Native.Nat.{◌*◌}
use mathlib.Core.List.{◌++◌}
use Rattle.bundle.specs.Layout.{blocks_for}
use Rattle.content.specs.Content.{whole_records}
use Rattle.writer.specs.Rows.{list_rows, room_rows, JudgedAs}
use Rattle.writer.proofs.judge.judge_list.Goals as goal

pub returns : goal.returns
returns c =
    let args = c.args in
    list_passed args.entities args.names args.records.now _ _ c.judge_room.result c.in_ok-flaw_of.ensures c.judge_room.ensures

pub returns-in_err-flaw_of : goal.returns-in_err-flaw_of
returns-in_err-flaw_of c =
    let args = c.args in
    let records = args.records.now in
    let later = room_rows (whole_records records) args.size in
    let length = 512 * blocks_for (whole_records records) in
    handed_on (λ r. JudgedAs (list_rows args.entities args.names records ++ later) r length) c.from_residual.ensures
    (list_refused args.entities args.names records later length _ c.in_err-flaw_of.ensures)
