-- `storage::stored` meets its contract.
use Rattle.sheet.specs.Types.{types_by}
use Rattle.storage.proofs.Said.{stored_held, stored_ill}
use Rattle.storage.proofs.stored.Goals as goal

pub returns-then-structurally : goal.returns-then-structurally
returns-then-structurally c =
    stored_held (types_by c.args.sheet.now) _ _ _ _ c.record_at-kept.ensures c.structurally.ensures
    c.if-structurally.true c.shelves.ensures

pub returns : goal.returns
returns c =
    stored_ill (types_by c.args.sheet.now) _ _ _ c.record_at-kept.ensures c.structurally.ensures c.if-structurally.false
