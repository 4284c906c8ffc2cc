-- `lines_from_bundle::put_record` meets its contract.
use Rattle.lines_from_bundle.proofs.Gathered.{record_part}
use Rattle.lines_from_bundle.proofs.put_record.Goals as goal

pub returns : goal.returns
returns c =
    let place = c.after-place.ensures in
    record_part c.args.bundle.now _ _ _ place.0 place.1 c.put_part.ensures
