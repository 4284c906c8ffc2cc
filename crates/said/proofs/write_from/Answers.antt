-- `said::write_from` meets its contract: what it hands on is within the room.
use native.Mathlib.Omega.{arith}
use Rattle.said.proofs.write_from.Goals as goal

pub slice_bounds-room-end : goal.slice_bounds-room-end
slice_bounds-room-end g c = omega arith
