-- `input::said_after` meets its contract: where no piece came the input has ended.
use mathlib.Core.Path.{refl}
use Rattle.input.proofs.said_after.Goals as goal

pub returns-in-None : goal.returns-in-None
returns-in-None c = rw (c.in_ok-last.was, c.in-None.is) refl
