-- `bundle_from_lines::run`: its buffer has room for the longest input, its bundle for the longest one, and what it says is of what was read.
use native.Mathlib.Omega.{arith}
use Rattle.bundle_from_lines.proofs.run.Goals as goal

pub write-requires : goal.write-requires
write-requires g c = c.say-listing.ensures (omega (arith, c.fill-got.auto.buffer)) (_, c.fill-got.ensures) (omega arith)
