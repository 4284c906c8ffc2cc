-- `premises::fact::fact_number` meets its contract.
use mathlib.Core.Path.{sym, ◌∙◌}
use Rattle.base.proofs.Flags.{inside}
use Rattle.words.specs.Sizes.{most_entities}
use Rattle.words.proofs.Given.{place_most}
use Rattle.premises.specs.Fact.{fact_number}
use native.Mathlib.Omega.{arith}
use Rattle.premises.proofs.fact.fact_number.Goals as goal

pub returns-then-outside : goal.returns-then-outside
unfolding fact_number
returns-then-outside c = rw (sym c.outside.ensures ∙ c.if-outside.true)

pub overflow_mul-result : goal.overflow_mul-result
overflow_mul-result c = omega (arith, c.place.ensures, place_most c.args.entity c.args.name)

pub overflow_sub-result : goal.overflow_sub-result
overflow_sub-result c =
    omega (arith, inside most_entities c.args.member (sym c.outside.ensures ∙ c.if-outside.false))

pub overflow_add-result : goal.overflow_add-result
overflow_add-result c =
    let args = c.args in
    omega (arith, c.place.ensures, place_most args.entity args.name, inside most_entities args.member (sym c.outside.ensures ∙ c.if-outside.false))

pub returns : goal.returns
unfolding fact_number
returns c = rw (sym c.outside.ensures ∙ c.if-outside.false, c.place.ensures)
