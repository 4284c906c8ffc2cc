-- `block::check` meets its contract. The invariant: the two totals are those of the bytes passed, the second with 1 added, and small.
use Rattle.std.proofs.Common.{◌≡◌, ◌+◌, ◌*◌, ◌-◌, ◌≤◌}
use Rattle.block.proofs.Totals.{running_total, total_of_totals}
use Rattle.block.proofs.Weighed.{passed}
use Rattle.block.proofs.check.Given as goal

abbrev pub invariant-loop-turn : goal.invariant-loop-turn
invariant-loop-turn l =
    (l.running ≡ running_total (passed l.bytes (2 * l.turn)))
    × (l.totals ≡ 1 + total_of_totals (passed l.bytes (2 * l.turn)))
    × (l.running ≤ 510 * (255 - l.turn))
    × (l.totals ≤ 1 + 260100 * (255 - l.turn))
