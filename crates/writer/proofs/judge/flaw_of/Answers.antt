-- `writer::judge::flaw_of` meets its contract.
use Rattle.writer.proofs.Tables.{list_flaw, list_right}
use borrow.Author.Rules.{rules}
use Rattle.writer.proofs.judge.flaw_of.Goals as goal

pub returns-then-i-records : goal.returns-then-i-records
returns-then-i-records c =
    let args = c.args in
    list_flaw args.entities args.names args.records.now c.lowest_wrong-i.result _ c.lowest_wrong-i.ensures (search rules) c.mistake_at.ensures

pub returns : goal.returns
returns c =
    let args = c.args in
    list_right args.entities args.names args.records.now c.lowest_wrong-i.result c.lowest_wrong-i.ensures (search rules)
