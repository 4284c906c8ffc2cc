-- `block::check` meets its contract. The invariant: the two totals are those of the bytes passed, the second with 1 added, and small.
use Prim.Native.Nat.{◌-◌, ◌*◌}
use native.Mathlib.Omega.{arith}
use Rattle.block.proofs.Weighed.{running_none, totals_none, turned, check_done}
use Rattle.block.proofs.check.Goals as goal

pub loop-turn-init : goal.loop-turn-init
loop-turn-init c = (running_none _, omega (arith, totals_none c.args.bytes.now), omega arith, omega arith)

pub loop-turn-preserved : goal.loop-turn-preserved
loop-turn-preserved c =
    let held = c.loop-turn.invariant in
    let turn = turned _ _ (2 * (c.loop-turn.turn - 1)) _ _ _ _ (omega arith) (omega arith) held.0 held.1 c.byte-later.ensures.0 c.byte-earlier.ensures.0 in
    (turn.0, turn.1, omega arith, omega arith)

pub returns : goal.returns
returns c = check_done _ _ _ (omega arith) c.loop-turn.invariant.1
