-- `tables::start::start` meets its contract. The invariant: the first i words are those of the table to be made.
use borrow.Author.Rules.{rules}
use Rattle.rt0.specs.Word.{open_words}
use Rattle.tables.proofs.Starts.{open_more}
use Rattle.tables.proofs.start.start.Goals as goal

pub loop-i-init : goal.loop-i-init
unfolding open_words
loop-i-init c = search rules

pub loop-i-preserved : goal.loop-i-preserved
loop-i-preserved c =
    open_more _ _ _ _ _ _ (search rules) c.open_word.ensures c.loop-i.invariant
