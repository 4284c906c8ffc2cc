-- `bundle::read::read_records` meets its contract.
use Rattle.bundle.proofs.Stages.{record_refused, record_passed}
use Rattle.bundle.proofs.read.read_records.Goals as goal

pub returns-then-i-sizes : goal.returns-then-i-sizes
returns-then-i-sizes c =
    record_refused c.args.bundle.now _ _ c.requires.1 c.lowest_bad_record-i.ensures c.if-i-sizes.true _
    c.mistake_number.ensures

pub returns : goal.returns
returns c =
    record_passed c.args.bundle.now _ _ c.requires.1 c.lowest_bad_record-i.ensures c.if-i-sizes.false
