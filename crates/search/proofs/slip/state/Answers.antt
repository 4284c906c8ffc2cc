-- `search::slip::state` meets its contract.
use Prim.Native.Nat.{◌<◌}
use Rattle.rt0.specs.Sizes.{slip_lines}
use Rattle.ledger.proofs.Steps.{none_more}
use Rattle.ledger.proofs.Stating.{number_most, line_room, line_more}
use native.Mathlib.Omega.{arith}
use Rattle.search.proofs.slip.state.Goals as goal

pub returns-then-given-i-eq0 : goal.returns-then-given-i-eq0
returns-then-given-i-eq0 c = none_more _ _ c.requires.0 (λ one. absurd (omega (arith, c.if-given-i-eq0.true)))

pub returns-then-index-at-ne0 : goal.returns-then-index-at-ne0
returns-then-index-at-ne0 c = none_more _ _ c.requires.0 (λ _. c.if-index-at-ne0.true)

pub overflow_cast-given : goal.overflow_cast-given
overflow_cast-given c =
    let pre = c.requires in
    omega (arith, number_most pre.0 pre.1)

pub overflow_add-index : goal.overflow_add-index
overflow_add-index c =
    let room : c.args.lines < slip_lines =
    line_room c.requires.0 c.requires.1 c.requires.2 c.if-given-i-eq0.false c.if-index-at-ne0.false in
    omega (arith, room)

pub overflow_cast-index : goal.overflow_cast-index
overflow_cast-index c =
    let room : c.args.lines < slip_lines =
    line_room c.requires.0 c.requires.1 c.requires.2 c.if-given-i-eq0.false c.if-index-at-ne0.false in
    omega (arith, room)

pub overflow_add-result : goal.overflow_add-result
overflow_add-result c =
    let room : c.args.lines < slip_lines =
    line_room c.requires.0 c.requires.1 c.requires.2 c.if-given-i-eq0.false c.if-index-at-ne0.false in
    omega (arith, room)

pub returns : goal.returns
returns c =
    line_more c.requires.0 c.requires.1 c.requires.2 c.if-given-i-eq0.false c.if-index-at-ne0.false
    c.record_at-record.ensures c.write_line.ensures
