-- `listed::write_front` meets its contract: what it hands on is within the text.
use native.Mathlib.Omega.{arith}
use lib.ListN.{length-take}
use Rattle.listed.proofs.write_front.Goals as goal

pub slice_bounds-write_part-end : goal.slice_bounds-write_part-end
slice_bounds-write_part-end g c = omega (arith, length-take c.args.size c.args.text.now)
