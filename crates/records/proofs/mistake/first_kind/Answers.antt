-- `records::mistake::first_kind` meets its contract. The invariant: the least kind is that of the bytes passed.
use Rattle.base.proofs.Lowest.{least_none, least_lower, least_same, least_done}
use Rattle.records.specs.Mistake.{mistake_kind}
use Rattle.records.proofs.Ways.{found_kind}
use native.Mathlib.Omega.{arith}
use Rattle.records.proofs.mistake.first_kind.Goals as goal
use Rattle.records.proofs.mistake.first_kind.Goals.{then-kind-least, else-kind-least}

pub loop-i-init : goal.loop-i-init
loop-i-init c = (c.byte-form.ensures.0, c.byte-parts.ensures.0, least_none _ 5)

pub loop-i-preserved : goal.loop-i-preserved
loop-i-preserved c =
    let inv = c.loop-i.invariant in
    let found = found_kind _ _ _ _ _ _ _ c.args.«record».now inv.0 inv.1 c.byte.ensures.0 c.kind_at-kind.ensures in (
      inv.0,
      inv.1,
      elim c.if-kind-least.branch [
        | then-kind-least w ↦ rw w.least-is (least_lower _ 5 _ _ _ inv.2 found w.if-kind-least.true)
        | else-kind-least w ↦ rw w.least-is (least_same _ 5 _ _ _ inv.2 found w.if-kind-least.false)
      ],
    )

pub returns : goal.returns
unfolding mistake_kind
returns c = least_done _ 5 12 _ _ (omega arith) (omega arith) c.loop-i.invariant.2
