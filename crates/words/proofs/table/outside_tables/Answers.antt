-- `words::table::outside_tables` meets its contract.
use Rattle.words.specs.Give.{outside_tables}
use Rattle.words.proofs.table.outside_tables.Goals as goal

pub returns : goal.returns
unfolding outside_tables
returns c = rw (c.outside.ensures, c.outside-2.ensures)
