-- `records::form::parts_of` meets its contract.
use mathlib.Core.Path.{sym, ◌∙◌}
use borrow.Author.Tests.{ne_eqb}
use Rattle.records.specs.Form.{intersection_in}
use Rattle.records.proofs.form.parts_of.Goals as goal

pub returns-then-byte-eq3 : goal.returns-then-byte-eq3
unfolding intersection_in
returns-then-byte-eq3 c =
    rw (
      c.role_at-head.ensures,
      c.role_at-one.ensures,
      c.role_at-two.ensures,
      c.role_at-three.ensures,
      sym c.byte.ensures.0 ∙ c.if-byte-eq3.true,
    )

pub returns-else-byte-eq3 : goal.returns-else-byte-eq3
unfolding intersection_in
returns-else-byte-eq3 c =
    rw (
      c.role_at-head.ensures,
      c.role_at-one.ensures,
      c.role_at-two.ensures,
      ← c.byte.ensures.0,
      ne_eqb _ _ c.if-byte-eq3.false,
    )
