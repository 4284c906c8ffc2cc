-- `holders`: an input longer than the buffer is refused 1 at 0.
use mathlib.Core.Path.{refl}
use Rattle.listed.proofs.Saying.{line_longer}
use Rattle.holders.specs.Prints.{Prints}
use Rattle.holders.proofs.Prints.{prints_longer}
use Rattle.holders.proofs.AppListProgram.longer.Goals as goal

pub returns : goal.returns
returns c long room = (
  line_longer c.args.text.now record { length = 0; line = c.refusal.result; problem = c.empty.result } Prints c.args.buffer.now _ _
      prints_longer long refl c.refusal.ensures,
  c.empty.ensures.0,
)
