-- `writer::judge::wrong_at` meets its contract.
use Prim.Native.Nat.{◌*◌}
use Rattle.base.proofs.Parts.{found_part}
use Rattle.records.specs.Mistake.{record_wrong}
use Rattle.writer.proofs.judge.wrong_at.Goals as goal

pub returns : goal.returns
returns c =
    let args = c.args in
    found_part (record_wrong args.entities args.names) args.records.now (12 * args.i) 12 _ c.record_wrong.ensures
