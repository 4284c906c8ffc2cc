-- `bundle::access::record_in` meets its contract.
use Rattle.base.proofs.Parts.{found_part}
use Rattle.records.specs.Form.{record_in}
use Rattle.bundle.proofs.access.record_in.Goals as goal

pub returns : goal.returns
returns c = found_part record_in c.args.bytes.now c.args.start 12 _ c.record_of.ensures
