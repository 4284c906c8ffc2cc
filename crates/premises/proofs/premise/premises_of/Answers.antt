-- `premises::premise::premises_of` meets its contract.
use mathlib.Core.Path.{sym, ◌∙◌}
use Rattle.base.proofs.Flags.{inside}
use Rattle.words.specs.Sizes.{most_entities}
use Rattle.premises.specs.Premise.{premises_by}
use native.Mathlib.Omega.{arith}
use Rattle.premises.proofs.premise.premises_of.Goals as goal

pub returns-then-outside : goal.returns-then-outside
unfolding premises_by
returns-then-outside c = rw (sym c.outside.ensures ∙ c.if-outside.true) c.of.ensures

pub premises_in-requires : goal.premises_in-requires
premises_in-requires c =
    omega (arith, inside most_entities c.args.member (sym c.outside.ensures ∙ c.if-outside.false))

pub returns : goal.returns
unfolding premises_by
returns c = rw (sym c.outside.ensures ∙ c.if-outside.false) c.premises_in.ensures
