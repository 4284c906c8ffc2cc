-- `premises::premise::premises_in` meets its contract.
use Rattle.premises.specs.Premise.{premises_in}
use Rattle.premises.proofs.premise.premises_in.Goals as goal

pub returns-in-Entity : goal.returns-in-Entity
unfolding premises_in
returns-in-Entity c = rw (c.in-Some.is, c.in-Entity.is, c.of-in-Entity.ensures)

pub returns-in-Role : goal.returns-in-Role
unfolding premises_in
returns-in-Role c = rw (c.in-Some.is, c.in-Role.is, c.of-in-Role.ensures, c.line_of.ensures)

pub returns-in-Link : goal.returns-in-Link
unfolding premises_in
returns-in-Link c = rw (c.in-Some.is, c.in-Link.is) c.link_premises.ensures

pub returns-in-TwoParts : goal.returns-in-TwoParts
unfolding premises_in
returns-in-TwoParts c = rw (c.in-Some.is, c.in-TwoParts.is, c.of-in-TwoParts.ensures, c.line_of-in-TwoParts.ensures, c.line_of-in-TwoParts-2.ensures)

pub returns-in-ThreeParts : goal.returns-in-ThreeParts
unfolding premises_in
returns-in-ThreeParts c =
    rw (c.in-Some.is, c.in-ThreeParts.is, c.of-in-ThreeParts.ensures, c.line_of-in-ThreeParts.ensures, c.line_of-in-ThreeParts-2.ensures, c.line_of-third.ensures)

pub returns-in_default : goal.returns-in_default
unfolding premises_in
returns-in_default c = rw (c.in_default.is, c.of.ensures)
