-- `text::word` meets its contract. The invariant: the letters passed are written.
use native.Mathlib.Numerals.{add-one}
use borrow.Author.Rules.{rules}
use lib.Seq.{take-suc}
use Rattle.text.proofs.Written.{wrote_none, wrote_more}
use Rattle.text.proofs.word.Goals as goal

pub loop-letter-init : goal.loop-letter-init
loop-letter-init c = wrote_none _ _

pub loop-letter-preserved : goal.loop-letter-preserved
loop-letter-preserved c =
    rw (add-one, take-suc c.args.letters.now c.loop-letter.letter-index 0 (search rules))
    (wrote_more c.loop-letter.invariant c.put-next.ensures)
