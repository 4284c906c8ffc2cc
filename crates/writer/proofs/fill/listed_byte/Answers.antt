-- `writer::fill::listed_byte` meets its contract.
use native.Mathlib.Omega.{arith}
use Rattle.writer.proofs.Bytes.{listed_record, listed_gap, listed_number, listed_count}
use Rattle.writer.proofs.fill.listed_byte.Goals as goal

pub returns-then-i : goal.returns-then-i
returns-then-i c =
    let args = c.args in
    (listed_record args.records.now args.j args.i c.byte.result c.if-i.true c.byte.ensures.0, c.byte.ensures.1)

pub returns-then-i-lt-NUMBER_PLACE : goal.returns-then-i-lt-NUMBER_PLACE
returns-then-i-lt-NUMBER_PLACE c =
    let args = c.args in
    (listed_gap args.records.now args.j args.i 0 c.if-i.false c.if-i-lt-NUMBER_PLACE.true, omega arith)

pub returns-then-i-eq-NUMBER_PLACE : goal.returns-then-i-eq-NUMBER_PLACE
returns-then-i-eq-NUMBER_PLACE c =
    let args = c.args in
    (listed_number args.records.now args.j args.i 0 c.if-i-lt-NUMBER_PLACE.false c.if-i-eq-NUMBER_PLACE.true, omega arith)

pub returns-else-i-eq-NUMBER_PLACE : goal.returns-else-i-eq-NUMBER_PLACE
returns-else-i-eq-NUMBER_PLACE c =
    let args = c.args in (
      listed_count args.records.now args.j args.i c.records_in.result c.if-i-lt-NUMBER_PLACE.false c.if-i-eq-NUMBER_PLACE.false c.records_in.ensures.0,
      omega (arith, c.records_in.ensures.1),
    )
