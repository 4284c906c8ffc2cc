-- `writer::judge::judge_write` meets its contract.
use mathlib.Core.Path.{sym, ◌∙◌}
use native.Mathlib.Omega.{arith}
use Rattle.writer.proofs.Tables.{write_cut, write_head, write_list}
use Rattle.writer.proofs.judge.judge_write.Goals as goal

pub returns-then-records-ne0 : goal.returns-then-records-ne0
returns-then-records-ne0 c =
    let args = c.args in
    rw c.at.ensures (write_cut args.entities args.names args.marks.now args.records.now args.size (λ e. c.if-records-ne0.true (omega arith)))

pub returns-then-head_wrong : goal.returns-then-head_wrong
returns-then-head_wrong c =
    let args = c.args in
    rw c.at-then-head_wrong.ensures (write_head args.entities args.names args.marks.now args.records.now args.size
    (omega arith) (sym c.head_wrong.ensures ∙ c.if-head_wrong.true))

pub returns : goal.returns
returns c =
    let args = c.args in
    write_list args.entities args.names args.marks.now args.records.now args.size
    (omega arith) c.judge_list.result (sym c.head_wrong.ensures ∙ c.if-head_wrong.false) c.judge_list.ensures
