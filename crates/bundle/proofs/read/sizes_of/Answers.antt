-- `bundle::read::sizes_of` meets its contract.
use borrow.Author.Rules.{rules}
use Rattle.bundle.proofs.read.sizes_of.Goals as goal

pub returns : goal.returns
returns c = (rw (c.byte-3.ensures.0, c.byte-2.ensures.0, c.byte.ensures.0), search rules)
