-- `words::table::place` meets its contract.
use native.Mathlib.Omega.{arith}
use mathlib.Core.Path.{sym, ◌∙◌}
use Rattle.words.specs.Give.{place_of}
use Rattle.words.proofs.Given.{inside_tables}
use Rattle.words.proofs.table.place.Goals as goal

pub returns-then-outside_tables : goal.returns-then-outside_tables
unfolding place_of
returns-then-outside_tables c = rw (sym c.outside_tables.ensures ∙ c.if-outside_tables.true)

pub overflow_sub-result : goal.overflow_sub-result
overflow_sub-result c = omega (arith, inside_tables _ _ c.outside_tables.ensures c.if-outside_tables.false)

pub overflow_mul-result : goal.overflow_mul-result
overflow_mul-result c = omega (arith, inside_tables _ _ c.outside_tables.ensures c.if-outside_tables.false)

pub overflow_sub-result-2 : goal.overflow_sub-result-2
overflow_sub-result-2 c = omega (arith, inside_tables _ _ c.outside_tables.ensures c.if-outside_tables.false)

pub overflow_add-result : goal.overflow_add-result
overflow_add-result c = omega (arith, inside_tables _ _ c.outside_tables.ensures c.if-outside_tables.false)

pub returns : goal.returns
unfolding place_of
returns c = rw (sym c.outside_tables.ensures ∙ c.if-outside_tables.false)
