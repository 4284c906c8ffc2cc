-- `words::table::word` meets its contract.
use native.Mathlib.Omega.{arith}
use mathlib.Core.Path.{sym, ◌∙◌}
use Rattle.words.specs.Give.{word_of}
use Rattle.words.proofs.Given.{inside_tables}
use borrow.Author.Rules.{rules}
use Rattle.words.proofs.table.word.Goals as goal

pub returns-then-outside_tables : goal.returns-then-outside_tables
unfolding word_of
returns-then-outside_tables c = rw (sym c.outside_tables.ensures ∙ c.if-outside_tables.true)

pub overflow_sub-at : goal.overflow_sub-at
overflow_sub-at c = omega (arith, inside_tables _ _ c.outside_tables.ensures c.if-outside_tables.false)

pub overflow_mul-at : goal.overflow_mul-at
overflow_mul-at c = omega (arith, inside_tables _ _ c.outside_tables.ensures c.if-outside_tables.false)

pub overflow_sub-at-2 : goal.overflow_sub-at-2
overflow_sub-at-2 c = omega (arith, inside_tables _ _ c.outside_tables.ensures c.if-outside_tables.false)

pub overflow_add-at : goal.overflow_add-at
overflow_add-at c = omega (arith, inside_tables _ _ c.outside_tables.ensures c.if-outside_tables.false)

pub returns : goal.returns
unfolding word_of
returns c = rw (sym c.outside_tables.ensures ∙ c.if-outside_tables.false) (search rules)
