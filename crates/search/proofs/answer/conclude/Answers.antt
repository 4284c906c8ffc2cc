-- `search::answer::conclude` meets its contract.
use Rattle.search.proofs.Concluding.{person_within, slip_due, conclude_yes, conclude_unsure, conclude_no}
use Rattle.search.proofs.answer.conclude.Goals as goal

pub holds-requires : goal.holds-requires
holds-requires c = person_within c.requires.0

pub write_slip-lines-requires : goal.write_slip-lines-requires
write_slip-lines-requires c =
    let pre = c.requires in
    (pre.0, pre.2, pre.1.rounds, slip_due pre.0 pre.1 c.holds.ensures c.if-holds.true)

pub returns-then-holds : goal.returns-then-holds
returns-then-holds c =
    let pre = c.requires in
    conclude_yes pre.0 pre.1 c.args.possible.now _ _ _ c.holds.ensures c.if-holds.true c.write_slip-lines.ensures

pub holds-requires-2 : goal.holds-requires-2
holds-requires-2 c = person_within c.requires.0

pub returns-then-holds-2 : goal.returns-then-holds-2
returns-then-holds-2 c =
    let pre = c.requires in
    conclude_unsure pre.0 pre.1 _ _ c.holds.ensures c.if-holds.false c.holds-2.ensures c.if-holds-2.true

pub returns : goal.returns
returns c = let pre = c.requires in conclude_no pre.0 pre.1 _ _ c.holds-2.ensures c.if-holds-2.false
