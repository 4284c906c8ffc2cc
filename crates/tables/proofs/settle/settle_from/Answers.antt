-- `tables::settle::settle_from` meets its contract.
use borrow.Author.Rules.{rules}
use Rattle.tables.proofs.Held.{held_entities}
use Rattle.tables.proofs.Starts.{open_start}
use Rattle.tables.proofs.settle.settle_from.Goals as goal

pub start-requires : goal.start-requires
start-requires c = (held_entities _ c.requires.0, search rules)

pub settle-requires : goal.settle-requires
settle-requires c =
    let h = c.requires.0 in
    (h, open_start _ h _ c.start.ensures)

pub returns : goal.returns
returns c = rw (← c.start.ensures) c.settle.ensures
