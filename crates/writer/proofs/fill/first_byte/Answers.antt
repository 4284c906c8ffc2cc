-- `writer::fill::first_byte` meets its contract.
use mathlib.Core.Path.{◌∙◌}
use Rattle.bundle.specs.Edition.{edition_for}
use Rattle.writer.proofs.Bytes.{given_edition, given_entities, given_names, given_count, given_mark}
use Rattle.writer.proofs.fill.first_byte.Goals as goal

pub returns-then-i-eq0 : goal.returns-then-i-eq0
returns-then-i-eq0 c =
    let args = c.args in
    c.edition_for.ensures
    ∙ given_edition (edition_for args.names) args.entities args.names args.count args.marks.now args.i
    c.if-i-eq0.true

pub returns-then-i-eq1 : goal.returns-then-i-eq1
returns-then-i-eq1 c =
    let args = c.args in
    given_entities (edition_for args.names) args.entities args.names args.count args.marks.now args.i
    c.if-i-eq0.false c.if-i-eq1.true

pub returns-then-i-eq2 : goal.returns-then-i-eq2
returns-then-i-eq2 c =
    let args = c.args in
    given_names (edition_for args.names) args.entities args.names args.count args.marks.now args.i
    c.if-i-eq0.false c.if-i-eq1.false c.if-i-eq2.true

pub returns-then-i-eq3 : goal.returns-then-i-eq3
returns-then-i-eq3 c =
    let args = c.args in
    given_count (edition_for args.names) args.entities args.names args.count args.marks.now args.i
    c.if-i-eq0.false c.if-i-eq1.false c.if-i-eq2.false c.if-i-eq3.true

pub returns-else-i-eq3 : goal.returns-else-i-eq3
returns-else-i-eq3 c =
    let args = c.args in
    given_mark (edition_for args.names) args.entities args.names args.count args.marks.now args.i
    c.if-i-eq0.false c.if-i-eq1.false
    c.if-i-eq2.false c.if-i-eq3.false c.byte.result c.byte.ensures.0
