-- `text::word` meets its contract. The invariant: the letters passed are written.
use lib.ListN.{take}
use Rattle.text.specs.Written.{Wrote}
use Rattle.text.proofs.word.Given as goal

abbrev pub invariant-loop-letter : goal.invariant-loop-letter
invariant-loop-letter l = Wrote l.initial.to l.fn.at (take l.letter-index l.letters) l.to l.next
