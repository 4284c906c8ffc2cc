-- `checker::line::Accepted::first_broken` meets its contract. The invariants: no line before i is wrong, and no premise of line i before j.
use native.Mathlib.Omega.{arith}
use mathlib.Core.Path.{◌≡◌, refl, sym, ◌∙◌}
use borrow.Author.Rules.{rules}
use Rattle.base.proofs.Lowest.{missed_none, lowest_none}
use Rattle.checker.proofs.Lookups.{line_found, line_passed}
use Rattle.checker.proofs.line.Accepted.first_broken.Goals as goal

pub lines-init : goal.lines-init
lines-init c = (refl, missed_none _)

pub lines-preserved : goal.lines-preserved
lines-preserved c =
    let inner = c.loop-j.invariant in
    (inner.0, line_passed _ _ _ _ (search rules) (search rules) c.lines.invariant.1 inner.1)

pub returns-after-lines : goal.returns-after-lines
returns-after-lines c =
    let end : c.lines.i ≡ c.args.lines = omega arith in
    c.lines.invariant.0 ∙ (sym end ∙ lowest_none _ _ _ (search rules) (search rules) c.lines.invariant.1)

pub returns-then-broken : goal.returns-then-broken
returns-then-broken c =
    line_found _ _ _ _ c.loop-j.j (search rules) (search rules)
    c.lines.invariant.1 c.loop-j.invariant.1
    (sym c.broken.ensures ∙ c.if-broken.true)
