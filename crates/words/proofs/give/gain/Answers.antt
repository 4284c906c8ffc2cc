-- `words::give::gain` meets its contract.
use mathlib.Core.Path.{refl}
use Rattle.words.proofs.give.gain.Goals as goal

pub returns : goal.returns
returns c = (refl, c.body_gives.ensures)
