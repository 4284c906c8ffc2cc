-- `letters::read::judge_lines` meets its contract. The invariant: the lines passed are those of valid credentials, at most 240.
use mathlib.Core.Path.{◌≡◌}
use Prim.Native.Nat.{◌≤◌}
use lib.ListN.{length}
use Rattle.letters.proofs.Reading.{Passed}
use Rattle.letters.proofs.read.judge_lines.Given as goal

abbrev pub invariant-loop-line : goal.invariant-loop-line
invariant-loop-line l = (l.lines ≡ length l.yielded) × (l.lines ≤ 240) × Passed l.entities l.names l.text l.at l.lines
