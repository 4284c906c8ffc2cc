-- `writer::last::last_byte` meets its contract.
use native.Mathlib.Omega.{arith}
use Rattle.writer.proofs.Bytes.{last_record, last_number, last_count}
use Rattle.writer.proofs.last.last_byte.Goals as goal

pub returns-then-i-lt-NUMBER_PLACE : goal.returns-then-i-lt-NUMBER_PLACE
returns-then-i-lt-NUMBER_PLACE c =
    let args = c.args in
    let place = c.after-place in
    (last_record args.n args.«record».now args.i c.byte.result place.result.start place.ensures.1 c.if-i-lt-NUMBER_PLACE.true c.byte.ensures.0, c.byte.ensures.1)

pub returns-then-i-eq-NUMBER_PLACE : goal.returns-then-i-eq-NUMBER_PLACE
returns-then-i-eq-NUMBER_PLACE c =
    let args = c.args in
    let place = c.after-place in
    (last_number args.n args.«record».now args.i place.result.block c.if-i-eq-NUMBER_PLACE.true place.ensures.0, omega (arith, place.ensures.0))

pub returns-else-i-eq-NUMBER_PLACE : goal.returns-else-i-eq-NUMBER_PLACE
returns-else-i-eq-NUMBER_PLACE c =
    let args = c.args in
    (last_count args.n args.«record».now args.i 0 c.if-i-lt-NUMBER_PLACE.false c.if-i-eq-NUMBER_PLACE.false, omega arith)
