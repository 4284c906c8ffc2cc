-- `lists::list_members` meets its contract.
use native.Mathlib.Omega.{arith}
use Rattle.lists.proofs.Promised.{members_wrong, members_given}
use Rattle.lists.proofs.list_members.Goals as goal

pub returns-then-outside : goal.returns-then-outside
returns-then-outside c = rw c.at.ensures (members_wrong _ _ c.requires.0 _ _ _ c.outside.ensures c.outside-2.ensures c.if-outside.true)

pub returns : goal.returns
returns c =
    members_given _ _ c.requires.0 _ _ _ c.outside.ensures c.outside-2.ensures c.if-outside.false (omega (arith, c.if-text-lt-MEMBERS.false)) c.requires.1
    c.word.ensures c.word-2.ensures c.write_members.ensures
