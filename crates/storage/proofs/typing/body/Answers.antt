-- `storage::typing::body` meets its contract.
use Rattle.storage.proofs.typing.body.Goals as goal

pub returns-in-Entity : goal.returns-in-Entity
returns-in-Entity c = rw (c.in-Some.is, c.in-Entity.is)

pub returns-in-Role : goal.returns-in-Role
returns-in-Role c = rw (c.in-Some.is, c.in-Role.is) c.traces.ensures

pub returns-in-Link : goal.returns-in-Link
returns-in-Link c =
    rw (c.in-Some.is, c.in-Link.is, c.link.ensures, c.traces-in-Link.ensures, c.traces-in-Link-2.ensures)

pub returns-in-TwoParts : goal.returns-in-TwoParts
returns-in-TwoParts c =
    rw (c.in-Some.is, c.in-TwoParts.is, c.both.ensures, c.traces-in-TwoParts.ensures, c.traces-in-TwoParts-2.ensures)

pub returns-in-ThreeParts : goal.returns-in-ThreeParts
returns-in-ThreeParts c =
    rw (c.in-Some.is, c.in-ThreeParts.is, c.both-in-ThreeParts.ensures, c.traces-in-ThreeParts-3.ensures, c.both-others.ensures, c.traces-in-ThreeParts.ensures, c.traces-in-ThreeParts-2.ensures)

pub returns-in_default : goal.returns-in_default
returns-in_default c = rw c.in_default.is
