-- `words::give::body_gives` meets its contract.
use mathlib.Core.Path.{◌∙◌}
use borrow.Author.Tests.{ne_eqb}
use Rattle.words.specs.Step.{body_gives}
use Rattle.words.proofs.give.body_gives.Goals as goal

pub returns-in-1 : goal.returns-in-1
unfolding body_gives
returns-in-1 c = rw c.in-1.is c.single.ensures

pub returns-in-2 : goal.returns-in-2
unfolding body_gives
returns-in-2 c = rw c.in-2.is c.word_at.ensures

pub returns-in-3 : goal.returns-in-3
unfolding body_gives
returns-in-3 c = rw c.in-3.is (c.link_word.ensures ∙ rw (c.word_at-in-3.ensures, c.min.ensures))

pub returns-in-4 : goal.returns-in-4
unfolding body_gives
returns-in-4 c = rw (c.in-4.is, c.word_at-in-4.ensures, c.word_at-in-4-2.ensures)

pub returns-in-5 : goal.returns-in-5
unfolding body_gives
returns-in-5 c =
    rw (c.in-5.is, c.word_at-in-5.ensures, c.word_at-in-5-2.ensures, c.word_at-in-5-3.ensures)

pub returns-in_default : goal.returns-in_default
unfolding body_gives
returns-in_default c =
    let none = c.in_default.in_default-own.rest in
    rw (ne_eqb _ _ none.0.0.0.0.1, ne_eqb _ _ none.0.0.0.1, ne_eqb _ _ none.0.0.1, ne_eqb _ _ none.0.1, ne_eqb _ _ none.1)
