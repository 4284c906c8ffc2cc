-- `input::fill` meets its contract: before the first piece nothing has come, and each piece comes behind the ones before it.
use Rattle.std.proofs.Common.{rules}
use Rattle.input.proofs.Pieces.{came_none, came_piece}
use Rattle.input.proofs.fill.Goals as goal

pub loop-done-init : goal.loop-done-init
loop-done-init g c = came_none _

pub loop-done-preserved : goal.loop-done-preserved
loop-done-preserved g c = came_piece {n = c.in-Ok-Some.n} c.loop-done.invariant (search rules) c.next_piece-piece.ensures
