-- `tables::settle::fill_table` meets its contract.
use native.Mathlib.Omega.{arith}
use Rattle.tables.proofs.Promised.{rests_in}
use Rattle.tables.proofs.settle.fill_table.Goals as goal

pub returns : goal.returns
returns c =
    let table = c.args.table.now in
    rests_in _ _ _ table _ _ c.settle_from.ensures (λ i. omega (arith, c.type_inv.table i))
