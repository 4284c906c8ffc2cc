-- `checker::claim::same` meets its contract.
use mathlib.Core.Path.{refl}
use Rattle.checker.proofs.claim.same.Goals as goal

pub returns-in-Some : goal.returns-in-Some
returns-in-Some c = rw c.in-Some.is refl
