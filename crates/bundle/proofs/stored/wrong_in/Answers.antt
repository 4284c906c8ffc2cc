-- `bundle::stored::wrong_in` meets its contract.
use Rattle.base.proofs.Parts.{found_part}
use Rattle.records.specs.Mistake.{record_wrong}
use Rattle.bundle.proofs.stored.wrong_in.Goals as goal

pub returns : goal.returns
returns c =
    let args = c.args in
    found_part (record_wrong args.sizes.entities args.sizes.names) args.bytes.now args.start 12 _ c.record_wrong.ensures
