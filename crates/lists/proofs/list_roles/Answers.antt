-- `lists::list_roles` meets its contract.
use native.Mathlib.Omega.{arith}
use Rattle.lists.proofs.Promised.{roles_wrong, roles_given}
use Rattle.lists.proofs.list_roles.Goals as goal

pub returns-then-outside : goal.returns-then-outside
returns-then-outside c = rw c.at.ensures (roles_wrong _ _ c.requires.0 _ _ c.outside.ensures c.if-outside.true)

pub returns : goal.returns
returns c =
    roles_given _ _ c.requires.0 _ _ c.outside.ensures c.if-outside.false (omega (arith, c.if-text-lt-ROLES.false)) c.requires.1
    c.write_roles.ensures
