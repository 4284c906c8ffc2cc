-- `words::step::among` meets its contract.
use native.Mathlib.Omega.{arith}
use mathlib.Core.Path.{sym, ◌∙◌}
use Rattle.base.proofs.Flags.{inside}
use Rattle.words.specs.Step.{among}
use Rattle.words.proofs.step.among.Goals as goal

pub returns-then-outside : goal.returns-then-outside
unfolding among
returns-then-outside c = (rw (sym c.outside.ensures ∙ c.if-outside.true), omega arith)

pub returns-else-outside : goal.returns-else-outside
unfolding among
returns-else-outside c =
    let among = sym c.outside.ensures ∙ c.if-outside.false in
    (rw among, (inside _ _ among).1)
