-- `spelling::line_length` meets its contract.
use native.Mathlib.Omega.{arith}
use Rattle.spelling.proofs.line_length.Goals as goal

pub returns : goal.returns
returns c = omega (arith, c.put_line.ensures.place)
