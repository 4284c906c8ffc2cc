-- `input::fill` meets its contract. The invariant: so many bytes came in pieces, one behind the other.
use Prim.Native.Nat.{◌-◌}
use lib.ListN.{length}
use Rattle.input.specs.Input.{Came}
use Rattle.input.proofs.fill.Given as goal

abbrev pub invariant-loop-done : goal.invariant-loop-done
invariant-loop-done g l = Came l.done l.initial.buffer l.buffer

abbrev pub decreases-loop-done : goal.decreases-loop-done
decreases-loop-done g l = length l.initial.buffer - l.done
