-- `words::table::copy` meets its contract. The invariant: the first i words are those of the other table.
use Prim.Native.Nat.{min}
use mathlib.Core.Path.{◌≡◌}
use lib.ListN.{length, take, drop}
use mathlib.Core.List.{◌++◌}
use Rattle.words.proofs.table.copy.Given as goal

abbrev pub invariant-loop-i : goal.invariant-loop-i
invariant-loop-i l = (l.end ≡ min (length l.from) (length l.initial.to)) × (l.to ≡ take l.i l.from ++ drop l.i l.initial.to)
