-- `tables::fill_accepted` meets its contract.
use Rattle.tables.proofs.Held.{held_entities}
use Rattle.tables.proofs.Promised.{tables_enough, both_left, refused_short}
use borrow.Author.Rules.{rules}
use Rattle.tables.proofs.fill_accepted.Goals as goal

pub returns-then-sure-possible : goal.returns-then-sure-possible
returns-then-sure-possible c = rw c.at.ensures (refused_short _ _ c.requires _ c.if-sure-possible.true)

pub fill_table-rounds-requires : goal.fill_table-rounds-requires
fill_table-rounds-requires c =
    (c.requires, (tables_enough c.args.sure.now c.args.possible.now c.if-sure-possible.false).0)

pub opened-open-requires : goal.opened-open-requires
opened-open-requires c = held_entities _ c.requires

pub fill_open-requires : goal.fill_open-requires
fill_open-requires c =
    let enough = tables_enough c.args.sure.now c.args.possible.now c.if-sure-possible.false in
    (c.requires, enough.1, search rules, c.fill_table-rounds.ensures.rests)

pub returns : goal.returns
returns c =
    both_left _ _ c.requires _ _ _ _ c.if-sure-possible.false c.fill_table-rounds.ensures
    (rw c.opened-open.ensures at c.fill_open.ensures)
