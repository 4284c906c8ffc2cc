-- `candidates::right::right_line` meets its contract.
use Rattle.candidates.proofs.Compared.{right_no, right_tells}
use mathlib.Core.Path.{sym, ◌∙◌}
use Rattle.candidates.proofs.right.right_line.Goals as goal

pub returns-then-record_wrong : goal.returns-then-record_wrong
returns-then-record_wrong c =
    let args = c.args in
    right_no args.entities args.names args.line.now _ c.candidate-record.ensures (sym c.record_wrong.ensures ∙ c.if-record_wrong.true)

pub returns : goal.returns
returns c =
    let args = c.args in
    right_tells args.entities args.names args.line.now _ c.candidate-record.ensures _ (sym c.record_wrong.ensures ∙ c.if-record_wrong.false)
    c.is_line.ensures
