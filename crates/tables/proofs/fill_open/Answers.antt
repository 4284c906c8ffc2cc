-- `tables::fill_open` meets its contract.
use native.Mathlib.Omega.{arith}
use Rattle.tables.proofs.Promised.{none_open, rests_copied}
use Rattle.tables.proofs.fill_open.Goals as goal

pub returns-then-roles : goal.returns-then-roles
returns-then-roles c =
    let none = none_open c.args.sizes c.args.roles c.if-roles.true in
    rests_copied _ _ _ c.args.possible.now _ _ (rw none at c.requires.3) c.requires.1 c.copy.ensures (λ i. omega (arith, c.type_inv.possible i))

pub fill_table-requires : goal.fill_table-requires
fill_table-requires c =
    (c.requires.0, c.requires.1)

pub returns : goal.returns
returns c = c.fill_table.ensures
