-- `words::give::link_word` meets its contract. The invariant: the word gained so far is that of the first x entities.
use borrow.Author.Rules.{rules}
use mathlib.Core.Path.{◌∙◌}
use Rattle.words.specs.Give.{link_of}
use Rattle.words.proofs.Gained.{link_other, link_member}
use Rattle.words.proofs.give.link_word.Goals as goal
use Rattle.words.proofs.give.link_word.Goals.{then-members-x-eq1, else-members-x-eq1}

pub loop-x-init : goal.loop-x-init
unfolding link_of
loop-x-init c = search rules

pub loop-x-preserved : goal.loop-x-preserved
loop-x-preserved c =
    elim c.if-members-x-eq1.branch [
      | then-members-x-eq1 w ↦ w.gained-is ∙ link_member _ _ _ _ _ c.loop-x.invariant w.if-members-x-eq1.true w.word-gained.ensures
      | else-members-x-eq1 w ↦ w.gained-is ∙ link_other _ _ _ _ _ c.loop-x.invariant w.if-members-x-eq1.false
    ]
