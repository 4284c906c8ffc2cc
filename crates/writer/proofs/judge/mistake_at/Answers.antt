-- `writer::judge::mistake_at` meets its contract.
use Rattle.writer.proofs.Tables.{found_mistake}
use Rattle.writer.proofs.judge.mistake_at.Goals as goal

pub returns : goal.returns
returns c =
    let args = c.args in
    found_mistake args.entities args.names args.records.now args.i c.mistake_of.result c.number_of.result
    c.mistake_of.ensures c.number_of.ensures
