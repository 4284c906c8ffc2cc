-- `words::give::single` meets its contract.
use mathlib.Core.Path.{sym, ◌∙◌}
use Rattle.words.specs.Give.{single_of}
use Rattle.rt0.proofs.Bits.{shifted_one}
use mathlib.Core.Path.{sym, ◌∙◌}
use Rattle.base.proofs.Flags.{inside}
use Rattle.words.specs.Sizes.{most_entities}
use native.Mathlib.Omega.{arith}
use Rattle.words.proofs.give.single.Goals as goal

pub returns-then-outside : goal.returns-then-outside
unfolding single_of
returns-then-outside c = rw (sym c.outside.ensures ∙ c.if-outside.true)

pub overflow_sub-result : goal.overflow_sub-result
overflow_sub-result c =
    let within = inside most_entities c.args.entity (sym c.outside.ensures ∙ c.if-outside.false) in
    omega arith

pub overflow_cast-result : goal.overflow_cast-result
overflow_cast-result c =
    let within = inside most_entities c.args.entity (sym c.outside.ensures ∙ c.if-outside.false) in
    omega arith

pub overflow_shl-result : goal.overflow_shl-result
overflow_shl-result c =
    let within = inside most_entities c.args.entity (sym c.outside.ensures ∙ c.if-outside.false) in
    omega arith

pub returns : goal.returns
unfolding single_of
returns c =
    let within = inside most_entities c.args.entity (sym c.outside.ensures ∙ c.if-outside.false) in
    rw (sym c.outside.ensures ∙ c.if-outside.false) (shifted_one 32 _ (omega arith))
