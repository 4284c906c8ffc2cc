-- `bundle::access::record_at` meets its contract.
use native.Mathlib.Omega.{arith}
use mathlib.Core.Path.{sym, ◌∙◌}
use Rattle.bundle.specs.Access.{record_of}
use Rattle.base.proofs.Flags.{inside}
use Rattle.bundle.proofs.Parts.{record_cut, record_read}
use Rattle.bundle.proofs.access.record_at.Goals as goal

pub returns-then-outside : goal.returns-then-outside
unfolding record_of
returns-then-outside c = rw (sym c.outside.ensures ∙ c.if-outside.true)

pub overflow_sub-n : goal.overflow_sub-n
overflow_sub-n c = omega (arith, inside 240 c.args.n (sym c.outside.ensures ∙ c.if-outside.false))

pub overflow_mul-start : goal.overflow_mul-start
overflow_mul-start c =
    omega (arith, inside 240 c.args.n (sym c.outside.ensures ∙ c.if-outside.false))

pub overflow_add-end : goal.overflow_add-end
overflow_add-end c =
    omega (arith, inside 240 c.args.n (sym c.outside.ensures ∙ c.if-outside.false))

pub returns-then-bundle-end : goal.returns-then-bundle-end
returns-then-bundle-end c =
    record_cut c.args.bundle.now _ _ (sym c.outside.ensures ∙ c.if-outside.false) c.after-place.ensures.0 c.if-bundle-end.true

pub returns : goal.returns
returns c =
    let place = c.after-place.ensures in
    record_read c.args.bundle.now _ _ _ _ (sym c.outside.ensures ∙ c.if-outside.false) place.0 place.1
    c.if-bundle-end.false c.record_in.ensures
