-- `letters::read::judge_text` meets its contract.
use mathlib.Core.Path.{sym, ◌∙◌}
use Rattle.letters.proofs.Reading.{in_range, text_range, text_in_range}
use Rattle.letters.proofs.read.judge_text.Goals as goal

pub returns-then-out_of_range : goal.returns-then-out_of_range
returns-then-out_of_range c =
    let args = c.args in
    rw c.at.ensures (text_range args.entities args.names args.text.now args.size (sym c.out_of_range.ensures ∙ c.if-out_of_range.true))

pub judge_lines-requires : goal.judge_lines-requires
judge_lines-requires c =
    let args = c.args in
    in_range args.entities args.names (sym c.out_of_range.ensures ∙ c.if-out_of_range.false)

pub returns : goal.returns
returns c =
    let args = c.args in
    text_in_range args.entities args.names args.text.now args.size (sym c.out_of_range.ensures ∙ c.if-out_of_range.false)
    c.judge_lines.result c.judge_lines.ensures
