-- `checker::line::wanted_by_link` meets its contract.
use mathlib.Core.List.{[], ◌∷◌}
use mathlib.Core.Path.{refl}
use Rattle.checker.proofs.Lookups.{picked}
use Rattle.checker.proofs.line.wanted_by_link.Goals as goal

pub returns : goal.returns
returns c = rw c.pick.ensures (picked _ _ _ _ (_ ∷ _ ∷ []) c.requires refl refl refl)
