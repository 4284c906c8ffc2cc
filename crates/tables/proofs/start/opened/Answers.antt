-- `tables::start::opened` meets its contract.
use Rattle.tables.proofs.Opened.{opened_none, opened_some}
use Rattle.tables.proofs.start.opened.Goals as goal

pub returns-then-word-eq0 : goal.returns-then-word-eq0
returns-then-word-eq0 c = opened_none _ _ _ _ c.absent-word.ensures c.if-word-eq0.true

pub returns-else-word-eq0 : goal.returns-else-word-eq0
returns-else-word-eq0 c = opened_some _ _ _ _ c.absent-word.ensures c.if-word-eq0.false
