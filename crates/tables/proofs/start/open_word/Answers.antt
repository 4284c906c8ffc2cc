-- `tables::start::open_word` meets its contract.
use Prim.Native.Nat.{◌/◌, ◌%◌}
use Rattle.words.specs.Sizes.{width}
use Rattle.tables.proofs.Starts.{open_word_lem, closed_word}
use Rattle.tables.proofs.start.open_word.Goals as goal

pub returns-then-entity-sizes : goal.returns-then-entity-sizes
returns-then-entity-sizes c =
    let a = c.args in
    open_word_lem a.sizes.entities a.sizes.names a.roles (a.i / width) (a.i % width) _ c.if-entity-sizes.true c.everyone.ensures

pub returns-else-entity-sizes : goal.returns-else-entity-sizes
returns-else-entity-sizes c =
    let a = c.args in
    closed_word a.sizes.entities a.sizes.names a.roles (a.i / width) (a.i % width) c.if-entity-sizes.false
