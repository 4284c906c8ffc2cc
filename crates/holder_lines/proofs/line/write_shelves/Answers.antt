-- `holder_lines::line::write_shelves` meets its contract.
use Rattle.holder_lines.proofs.Passes.{shelves_none, shelves_more}
use Rattle.holder_lines.proofs.line.write_shelves.Goals as goal

pub loop-i-init : goal.loop-i-init
loop-i-init c = shelves_none _ _ _

pub loop-i-preserved : goal.loop-i-preserved
loop-i-preserved c = shelves_more _ _ c.loop-i.invariant c.shelf-next.ensures
