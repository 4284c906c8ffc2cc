-- `letters::write::judge_records` meets its contract.
use native.Mathlib.Omega.{arith}
use mathlib.Core.Path.{sym, ◌∙◌}
use Rattle.letters.proofs.Writing.{records_cut, records_range, records_short, records_right, records_flaw}
use Rattle.base.proofs.Refused.{handed_on}
use lib.ListN.{length}
use Rattle.letters.specs.Lines.{text_of, credentials_in}
use Rattle.letters.specs.Rows.{write_rows}
use Rattle.letters.specs.Promise.{Says}
use Rattle.letters.proofs.write.judge_records.Goals as goal

pub returns-then-records-ne0 : goal.returns-then-records-ne0
returns-then-records-ne0 c =
    let args = c.args in
    rw c.at.ensures (records_cut args.entities args.names args.records.now args.size (λ e. c.if-records-ne0.true (omega arith)))

pub returns-then-out_of_range : goal.returns-then-out_of_range
returns-then-out_of_range c =
    let args = c.args in
    rw c.at-then-out_of_range.ensures (records_range args.entities args.names args.records.now args.size (omega arith) (sym c.out_of_range.ensures ∙ c.if-out_of_range.true))

pub judge_room-requires : goal.judge_room-requires
judge_room-requires c =
    let args = c.args in
    records_short args.entities args.names args.records.now args.size (omega arith) (sym c.out_of_range.ensures ∙ c.if-out_of_range.false)
    c.in_ok-flaw_of.ensures

pub returns : goal.returns
returns c =
    let args = c.args in
    records_right args.entities args.names args.records.now args.size (omega arith) (sym c.out_of_range.ensures ∙ c.if-out_of_range.false)
    c.in_ok-flaw_of.ensures c.judge_room.result c.judge_room.ensures

pub returns-in_err-flaw_of : goal.returns-in_err-flaw_of
returns-in_err-flaw_of c =
    let args = c.args in
    let records = args.records.now in
    handed_on (λ r. Says (write_rows args.entities args.names records args.size) r (length (text_of (credentials_in records)))) c.from_residual.ensures
    (records_flaw args.entities args.names records args.size (omega arith) (sym c.out_of_range.ensures ∙ c.if-out_of_range.false) _ c.in_err-flaw_of.ensures)
