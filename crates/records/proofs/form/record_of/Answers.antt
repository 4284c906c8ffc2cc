-- `records::form::record_of` meets its contract.
use mathlib.Core.Path.{sym, ◌∙◌}
use borrow.Author.Tests.{ne_eqb}
use Rattle.records.specs.Form.{record_in}
use Rattle.records.proofs.form.record_of.Goals as goal

pub returns-in-1 : goal.returns-in-1
unfolding record_in
returns-in-1 c = rw (c.role_at-head.ensures, c.byte-in-1.ensures.0, sym c.byte.ensures.0 ∙ c.in-1.is)

pub returns-in-2 : goal.returns-in-2
unfolding record_in
returns-in-2 c = rw (c.role_at-head.ensures, c.role_at.ensures, sym c.byte.ensures.0 ∙ c.in-2.is)

pub returns-in-3 : goal.returns-in-3
unfolding record_in
returns-in-3 c =
    rw (
      c.role_at-head.ensures,
      c.byte-in-3.ensures.0,
      c.byte-in-3-2.ensures.0,
      sym c.byte.ensures.0 ∙ c.in-3.is,
    )

pub returns-in-4 : goal.returns-in-4
unfolding record_in
returns-in-4 c = rw (c.parts_of.ensures, sym c.byte.ensures.0 ∙ c.in-4.is)

pub returns-in_default : goal.returns-in_default
unfolding record_in
returns-in_default c =
    rw (
      ← c.byte.ensures.0,
      ne_eqb _ _ c.in_default.in_default-own.rest.0.0.0.1,
      ne_eqb _ _ c.in_default.in_default-own.rest.0.0.1,
      ne_eqb _ _ c.in_default.in_default-own.rest.0.1,
      ne_eqb _ _ c.in_default.in_default-own.rest.1,
    )
