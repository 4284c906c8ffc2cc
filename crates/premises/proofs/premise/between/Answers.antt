-- `premises::premise::between` meets its contract. The invariant: the test fails below x.
use Prim.Native.Nat.{◌+◌}
use native.Mathlib.Omega.{arith}
use mathlib.Core.Path.{◌≡◌, sym, ap, ◌∙◌}
use Rattle.base.proofs.Lowest.{lowest_hit, lowest_none}
use borrow.Author.Rules.{rules}
use Rattle.words.specs.Sizes.{most_entities}
use Rattle.premises.proofs.premise.between.Goals as goal

pub returns-then-is_between : goal.returns-then-is_between
returns-then-is_between c =
    ap (λ x. x + 1) (lowest_hit _ _ _ (search rules) c.loop-x.invariant (sym c.is_between.ensures ∙ c.if-is_between.true))

pub returns : goal.returns
returns c =
    let end : c.loop-x.x ≡ most_entities = omega arith in
    ap (λ x. x + 1) (sym end ∙ lowest_none _ _ _ (search rules) (search rules) c.loop-x.invariant)
