-- `writer::judge::head_wrong` meets its contract.
use Rattle.writer.proofs.Heads.{head_found}
use Rattle.writer.proofs.judge.head_wrong.Goals as goal

pub returns : goal.returns
returns c =
    let args = c.args in
    head_found args.entities args.names args.marks.now _ _ _ c.outside.ensures c.outside-2.ensures
    c.marks_wrong.ensures
