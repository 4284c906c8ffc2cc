-- `lines_from_bundle::gather` meets its contract.
use Rattle.lines_from_bundle.proofs.Gathered.{gathering_none, gathering_more}
use Rattle.lines_from_bundle.proofs.gather.Goals as goal

pub loop-i-init : goal.loop-i-init
loop-i-init c = gathering_none _ _

pub loop-i-preserved : goal.loop-i-preserved
loop-i-preserved c =
    let args = c.args in
    gathering_more args.bundle.now args.records.now _ _ _ _ c.loop-i.i c.loop-i.invariant c.put_record-at.ensures
