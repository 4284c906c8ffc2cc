-- `words::table::copy` meets its contract. The invariant: the first i words are those of the other table.
use Prim.Native.Nat.{min}
use native.Mathlib.Omega.{arith}
use mathlib.Core.Path.{◌≡◌}
use lib.ListN.{length}
use Rattle.words.specs.Give.{copied_over}
use Rattle.words.proofs.Filling.{copied_none, copied_more, copied_length}
use Rattle.words.proofs.table.copy.Goals as goal

pub loop-i-init : goal.loop-i-init
loop-i-init c = (c.min-end.ensures, copied_none c.args.from.now c.args.to.now)

pub bounds-to-i : goal.bounds-to-i
bounds-to-i c = omega (arith, copied_length _ _ c.loop-i.i (omega arith) (omega arith) c.loop-i.invariant.1)

pub loop-i-preserved : goal.loop-i-preserved
loop-i-preserved c = (c.loop-i.invariant.0, copied_more _ _ c.loop-i.i (omega arith) (omega arith) c.loop-i.invariant.1)

pub shape_of-to : goal.shape_of-to
shape_of-to c = copied_length _ _ c.loop-i.i (omega arith) (omega arith) c.loop-i.invariant.1

pub returns : goal.returns
unfolding copied_over
returns c =
    let end : c.loop-i.i ≡ min (length c.args.from.now) (length c.args.to.now) = omega arith in
    rw (← end) c.loop-i.invariant.1
