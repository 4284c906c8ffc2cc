-- `tables::settle::settle` meets its contract. The invariant: the words are those after so many rounds, each of which changed
-- something. The measure is the room that is left.
use native.Mathlib.Omega.{arith}
use borrow.Author.Rules.{rules}
use mathlib.Core.Path.{◌∙◌}
use Rattle.words.proofs.Filling.{copied_same}
use Rattle.tables.proofs.Rounds.{all_stepped, steps_there, heads_there}
use Rattle.tables.proofs.Settling.{going_none, going_few, going_more, going_less, at_rest}
use Rattle.tables.proofs.settle.settle.Goals as goal

pub loop-sizes-init : goal.loop-sizes-init
loop-sizes-init c = (search rules, going_none _ _ _)

pub round-requires : goal.round-requires
round-requires c =
    let h = c.requires.0 in
    let there = heads_there _ h c.write_steps.new.steps (all_stepped _ h c.write_steps.ensures (search rules)) in
    (steps_there _ h c.write_steps.ensures (search rules), λ m l. omega (arith, there m l, c.loop-sizes.invariant.0))

pub returns-then-same : goal.returns-then-same
returns-then-same c =
    let h = c.requires.0 in
    at_rest _ h c.requires.1 c.loop-sizes.invariant.1 c.write_steps.new.steps (all_stepped _ h c.write_steps.ensures (search rules))
    (copied_same _ _ c.copy.ensures (search (rules, c.loop-sizes.invariant.0))) c.round.ensures (c.same.ensures.0 c.if-same.true)

pub overflow_add-rounds : goal.overflow_add-rounds
overflow_add-rounds c =
    omega (arith, going_few _ c.requires.0 c.requires.1 c.loop-sizes.invariant.1)

pub loop-sizes-smaller : goal.loop-sizes-smaller
loop-sizes-smaller c =
    let h = c.requires.0 in
    going_less _ h c.requires.1 c.loop-sizes.invariant.1 c.write_steps.new.steps (all_stepped _ h c.write_steps.ensures (search rules))
    (copied_same _ _ c.copy.ensures (search (rules, c.loop-sizes.invariant.0))) c.round.ensures (c.same.ensures.1 c.if-same.false)

pub loop-sizes-preserved : goal.loop-sizes-preserved
loop-sizes-preserved c =
    let h = c.requires.0 in (
      c.round.auto.to ∙ c.loop-sizes.invariant.0,
      going_more _ h c.requires.1 c.loop-sizes.invariant.1 c.write_steps.new.steps (all_stepped _ h c.write_steps.ensures (search rules))
          (copied_same _ _ c.copy.ensures (search (rules, c.loop-sizes.invariant.0))) c.round.ensures (c.same.ensures.1 c.if-same.false),
    )
