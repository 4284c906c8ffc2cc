-- `lines_from_bundle::run`: its buffer has room for the longest input, its text for the longest answer, and what it says is of what was read.
use native.Mathlib.Omega.{arith}
use Rattle.lines_from_bundle.proofs.run.Goals as goal

pub write-requires : goal.write-requires
write-requires g c = c.say-listing.ensures (omega (arith, c.fill-got.auto.buffer)) (_, c.fill-got.ensures) (omega arith)
