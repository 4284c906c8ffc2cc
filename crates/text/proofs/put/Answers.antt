-- `text::put` meets its contract.
use borrow.Author.Rules.{rules}
use Rattle.text.proofs.Written.{wrote_byte, wrote_no_byte}
use Rattle.text.proofs.put.Goals as goal

pub returns-then-at-to : goal.returns-then-at-to
returns-then-at-to c = wrote_byte _ _ _ (search rules)

pub returns-else-at-to : goal.returns-else-at-to
returns-else-at-to c = wrote_no_byte _ _ _ (search rules)
