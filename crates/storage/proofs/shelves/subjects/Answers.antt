-- `storage::shelves::subjects` meets its contract.
use Rattle.storage.proofs.shelves.subjects.Goals as goal

pub returns-in-Entity : goal.returns-in-Entity
returns-in-Entity c = rw (c.in-Some.is, c.in-Entity.is) c.single.ensures

pub returns-in-Role : goal.returns-in-Role
returns-in-Role c = rw (c.in-Some.is, c.in-Role.is) c.single-in-Role.ensures

pub returns-in-Link : goal.returns-in-Link
returns-in-Link c = rw (c.in-Some.is, c.in-Link.is) c.single-in-Link.ensures

pub returns-in-TwoParts : goal.returns-in-TwoParts
returns-in-TwoParts c = rw (c.in-Some.is, c.in-TwoParts.is, c.single-in-TwoParts.ensures, c.single-in-TwoParts-2.ensures)

pub returns-in-ThreeParts : goal.returns-in-ThreeParts
returns-in-ThreeParts c = rw (c.in-Some.is, c.in-ThreeParts.is, c.single-in-ThreeParts.ensures, c.single-in-ThreeParts-2.ensures, c.single-in-ThreeParts-3.ensures)

pub returns-in_default : goal.returns-in_default
returns-in_default c = rw c.in_default.is
