-- `checker::line::wanted` meets its contract: each form by its own list of facts.
use mathlib.Core.List.{[], ◌∷◌}
use mathlib.Core.Path.{refl}
use Rattle.checker.proofs.Lookups.{picked}
use Rattle.checker.proofs.line.wanted.Goals as goal

pub returns-in-Entity : goal.returns-in-Entity
returns-in-Entity c = rw (c.in_ok-credential.was, c.in-Entity.is)

pub returns-in-Role : goal.returns-in-Role
returns-in-Role c =
    let pre = c.requires in
    rw (c.pick.ensures, c.in_ok-credential.was, c.in-Role.is) (picked _ _ _ _ (_ ∷ []) pre refl refl refl)

pub returns-in-Link : goal.returns-in-Link
returns-in-Link c = rw (c.in_ok-credential.was, c.in-Link.is) c.wanted_by_link.ensures

pub returns-in-TwoParts : goal.returns-in-TwoParts
returns-in-TwoParts c =
    let pre = c.requires in
    rw (c.pick-in-TwoParts.ensures, c.in_ok-credential.was, c.in-TwoParts.is) (picked _ _ _ _ (_ ∷ _ ∷ []) pre refl refl refl)

pub returns-in-ThreeParts : goal.returns-in-ThreeParts
returns-in-ThreeParts c =
    let pre = c.requires in
    rw (c.pick-in-ThreeParts.ensures, c.in_ok-credential.was, c.in-ThreeParts.is) (picked _ _ _ _ (_ ∷ _ ∷ _ ∷ []) pre refl refl refl)
