-- `premises::line::put` meets its contract.
use Prim.Native.Nat.{◌*◌, ◌/◌, ◌%◌}
use mathlib.Core.Path.{◌∙◌}
use lib.ListN.{length-set}
use Rattle.rt0.specs.Slip.{line}
use Rattle.premises.proofs.LineBytes.{with_room, without_room, stores}
use native.Mathlib.Omega.{arith}
use Rattle.premises.proofs.line.put.Goals as goal

pub returns-then-slip-lines : goal.returns-then-slip-lines
returns-then-slip-lines c = without_room _ _ _ c.if-slip-lines.true

pub bounds-slip-at-2 : goal.bounds-slip-at-2
bounds-slip-at-2 c = simp length-set (omega arith)

pub bounds-slip-at-3 : goal.bounds-slip-at-3
bounds-slip-at-3 c = simp length-set (omega arith)

pub bounds-slip-at-4 : goal.bounds-slip-at-4
bounds-slip-at-4 c = simp length-set (omega arith)

pub bounds-slip-at-5 : goal.bounds-slip-at-5
bounds-slip-at-5 c = simp length-set (omega arith)

pub bounds-slip-at-6 : goal.bounds-slip-at-6
bounds-slip-at-6 c = simp length-set (omega arith)

pub bounds-slip-at-7 : goal.bounds-slip-at-7
bounds-slip-at-7 c = simp length-set (omega arith)

pub bounds-slip-at-8 : goal.bounds-slip-at-8
bounds-slip-at-8 c = simp length-set (omega arith)

pub shape_of-slip : goal.shape_of-slip
shape_of-slip c = simp length-set

pub returns : goal.returns
returns c =
    let slip = c.args.slip.now in
    let ps = c.args.premises in
    stores slip (8 * c.args.lines) _ _ (ps.first % 256) (ps.first / 256) (ps.second % 256) (ps.second / 256)
    (ps.third % 256) (ps.third / 256)
    ∙ with_room slip c.args.lines (line _ _ ps.first ps.second ps.third) (omega arith)
