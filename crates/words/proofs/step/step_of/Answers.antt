-- `words::step::step_of` meets its contract.
use mathlib.Core.Path.{◌∙◌}
use Rattle.words.specs.Step.{step_of}
use Rattle.words.proofs.step.step_of.Goals as goal

pub returns-in-Entity : goal.returns-in-Entity
unfolding step_of
returns-in-Entity c = rw (c.in-Some.is, c.in-Entity.is) (c.step_with-in-Entity.ensures ∙ rw (c.role_place.ensures.0, c.among.ensures.0))

pub returns-in-Role : goal.returns-in-Role
unfolding step_of
returns-in-Role c = rw (c.in-Some.is, c.in-Role.is) (c.step_with-in-Role.ensures ∙ rw (c.role_place-in-Role.ensures.0, c.role_place-in-Role-2.ensures.0))

pub returns-in-Link : goal.returns-in-Link
unfolding step_of
returns-in-Link c = rw (c.in-Some.is, c.in-Link.is) (c.step_with-in-Link.ensures ∙ rw (c.role_place-in-Link-2.ensures.0, c.role_place-in-Link.ensures.0, c.among-in-Link.ensures.0))

pub returns-in-TwoParts : goal.returns-in-TwoParts
unfolding step_of
returns-in-TwoParts c = rw (c.in-Some.is, c.in-TwoParts.is) (c.step_with-in-TwoParts.ensures ∙ rw (c.role_place-in-TwoParts.ensures.0, c.role_place-in-TwoParts-2.ensures.0, c.role_place-in-TwoParts-3.ensures.0))

pub returns-in-ThreeParts : goal.returns-in-ThreeParts
unfolding step_of
returns-in-ThreeParts c = rw (c.in-Some.is, c.in-ThreeParts.is) (c.step_with-in-ThreeParts.ensures ∙ rw (c.role_place-in-ThreeParts.ensures.0, c.role_place-in-ThreeParts-2.ensures.0, c.role_place-in-ThreeParts-3.ensures.0, c.role_place-third.ensures.0))

pub returns-in_default : goal.returns-in_default
unfolding step_of
returns-in_default c = rw c.in_default.is c.step_with.ensures
