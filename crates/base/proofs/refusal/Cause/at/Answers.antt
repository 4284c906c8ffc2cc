-- `base::refusal::Cause::at` meets its contract.
use mathlib.Core.Path.{refl}
use Rattle.base.proofs.refusal.Cause.at.Goals as goal

pub returns : goal.returns
returns g c = rw c.from.ensures refl
