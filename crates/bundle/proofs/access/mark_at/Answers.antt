-- `bundle::access::mark_at` meets its contract.
use native.Mathlib.Omega.{arith}
use mathlib.Core.Path.{sym, ◌∙◌}
use borrow.Author.Tests.{ne_eqb}
use Rattle.base.proofs.Flags.{inside}
use Rattle.bundle.proofs.access.mark_at.Goals as goal

pub returns-then-outside : goal.returns-then-outside
returns-then-outside c = rw (sym c.outside.ensures ∙ c.if-outside.true)

pub overflow_add-shelf : goal.overflow_add-shelf
overflow_add-shelf c = omega (arith, inside 32 c.args.shelf (sym c.outside.ensures ∙ c.if-outside.false))

pub returns-in-1 : goal.returns-in-1
returns-in-1 c =
    let among = sym c.outside.ensures ∙ c.if-outside.false in
    rw (among, sym c.byte.ensures.0 ∙ c.in-1.is)

pub returns-in-2 : goal.returns-in-2
returns-in-2 c =
    let among = sym c.outside.ensures ∙ c.if-outside.false in
    rw (among, sym c.byte.ensures.0 ∙ c.in-2.is)

pub returns-in_default : goal.returns-in_default
returns-in_default c =
    let among = sym c.outside.ensures ∙ c.if-outside.false in
    rw (among, ← c.byte.ensures.0, ne_eqb _ _ c.in_default.in_default-own.rest.0.1, ne_eqb _ _ c.in_default.in_default-own.rest.1)
