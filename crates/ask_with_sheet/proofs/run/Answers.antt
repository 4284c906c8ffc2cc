-- `ask_with_sheet::run`: its buffer has room for the longest input, and what it says is of what was read.
use native.Mathlib.Omega.{arith}
use Rattle.ask_with_sheet.proofs.run.Goals as goal

pub write-requires : goal.write-requires
write-requires g c = c.say-said.ensures (omega (arith, c.fill-got.auto.buffer)) (_, c.fill-got.ensures)
