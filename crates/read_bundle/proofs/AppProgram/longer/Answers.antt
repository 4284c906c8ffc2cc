-- `read_bundle`: an input longer than the buffer is refused 1 at 0.
use Rattle.read_bundle.proofs.AppProgram.longer.Goals as goal

pub returns : goal.returns
returns c = c.refusal.ensures
