-- `checker::line::Accepted::stated` meets its contract.
use Prim.Native.Nat.{◌≤◌}
use native.Mathlib.Omega.{arith}
use mathlib.Core.Path.{sym, ◌∙◌}
use Rattle.base.proofs.Flags.{inside}
use Rattle.bundle.specs.Held.{book_in}
use Rattle.checker.proofs.Lookups.{stated_outside, stated_inside}
use Rattle.checker.proofs.line.Accepted.stated.Goals as goal

pub returns-then-outside : goal.returns-then-outside
returns-then-outside c =
    let args = c.args in
    stated_outside (book_in args.self.now.bytes.now) args.slip.now args.lines args.p
    (sym c.outside.ensures ∙ c.if-outside.true)

pub overflow_sub-at : goal.overflow_sub-at
overflow_sub-at c =
    let number_within : let args = c.args in (1 ≤ args.p) × (args.p ≤ args.lines) =
    let args = c.args in
    inside args.lines args.p (sym c.outside.ensures ∙ c.if-outside.false) in
    omega (arith, number_within)

pub overflow_mul-at : goal.overflow_mul-at
overflow_mul-at c =
    let number_within : let args = c.args in (1 ≤ args.p) × (args.p ≤ args.lines) =
    let args = c.args in
    inside args.lines args.p (sym c.outside.ensures ∙ c.if-outside.false) in
    omega (arith, number_within)

pub overflow_add-at : goal.overflow_add-at
overflow_add-at c =
    let number_within : let args = c.args in (1 ≤ args.p) × (args.p ≤ args.lines) =
    let args = c.args in
    inside args.lines args.p (sym c.outside.ensures ∙ c.if-outside.false) in
    omega (arith, number_within)

pub returns : goal.returns
returns c =
    let args = c.args in
    stated_inside (book_in args.self.now.bytes.now) args.slip.now args.lines args.p _ _ _ _
    (sym c.outside.ensures ∙ c.if-outside.false) c.byte-number.ensures.0 c.byte.ensures.0
    c.credential.ensures c.stated_by.ensures
