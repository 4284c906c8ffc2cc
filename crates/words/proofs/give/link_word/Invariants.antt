-- `words::give::link_word` meets its contract. The invariant: the word gained so far is that of the first x entities.
use mathlib.Core.Path.{◌≡◌}
use Rattle.words.specs.Give.{link_of}
use Rattle.words.proofs.give.link_word.Given as goal

abbrev pub invariant-loop-x : goal.invariant-loop-x
invariant-loop-x l = l.gained ≡ link_of l.words l.members l.name l.x
