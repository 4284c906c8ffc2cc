-- One more turn of the block check, from the last byte to the first: the running total and the total of the totals stay those of the bytes
-- passed. Once all are passed they give the check.
use Prim.Native.Nat.{ℕ, suc, ◌+◌, ◌*◌, ◌%◌, ◌<◌, ◌≤◌}
use mathlib.Core.Path.{◌≡◌, refl, ap, ◌∙◌}
use mathlib.Core.Bool.{not}
use mathlib.Core.List.{List, [], ◌∷◌}
use lib.ListN.{drop, drop_of_length-le}
use lib.Seq.{drop-cons}
use lib.Dec.{eqb}
use native.Mathlib.Omega.{arith}
use Rattle.base.specs.Byte.{byte_at}
use Rattle.block.specs.Block.{weighed, check_of, check_wrong}
use Rattle.block.proofs.Totals.{running_total, total_of_totals, totals_weighed}
use Rattle.block.proofs.Padded.{padded, length_padded, byte_padded, weighed_padded}

-- the bytes that are passed when the check has come to place i: those from i to 509
unfoldable pub passed : List ℕ → ℕ → List ℕ
passed bytes i = drop i (padded bytes 510)

passed_none : (bytes : List ℕ) → passed bytes 510 ≡ []
unfolding passed
passed_none bytes = drop_of_length-le (padded bytes 510) {i = 510} (omega (arith, length_padded bytes 510))

passed_more : (bytes : List ℕ) (i : ℕ) → i < 510 → passed bytes i ≡ byte_at bytes i ∷ passed bytes (suc i)
unfolding passed
passed_more bytes i h =
    let found : byte_at (padded bytes 510) i ≡ byte_at bytes i = byte_padded bytes 510 i h in
    drop-cons (padded bytes 510) i 0 (omega (arith, length_padded bytes 510)) ∙ rw found

-- the two bytes of a turn
passed_two : (bytes : List ℕ) (i : ℕ) → i + 2 ≤ 510 → passed bytes i ≡ byte_at bytes i ∷ byte_at bytes (i + 1) ∷ passed bytes (i + 2)
passed_two bytes i l =
    let second : suc i ≡ i + 1 = omega arith in
    let third : suc (i + 1) ≡ i + 2 = omega arith in
    passed_more bytes i (omega arith) ∙ rw (second, passed_more bytes (i + 1) (omega arith), third)

-- before the first turn no byte is passed, and both totals are 0
pub running_none : (bytes : List ℕ) → 0 ≡ running_total (passed bytes 510)
unfolding running_total
running_none bytes = rw passed_none

pub totals_none : (bytes : List ℕ) → 0 ≡ total_of_totals (passed bytes 510)
unfolding total_of_totals
totals_none bytes = rw passed_none

-- one turn: the running total grows by the later byte and then by the earlier, and the total of the totals by both running totals
pub turned : (bytes : List ℕ) (i j running totals later earlier : ℕ) → i ≡ j + 2 → i ≤ 510
    → running ≡ running_total (passed bytes i) → totals ≡ 1 + total_of_totals (passed bytes i)
    → later ≡ byte_at bytes (j + 1) → earlier ≡ byte_at bytes j
    → (running + later + earlier ≡ running_total (passed bytes j))
    × (totals + (running + later + (running + later + earlier)) ≡ 1 + total_of_totals (passed bytes j))
unfolding running_total total_of_totals
turned bytes i j running totals later earlier s l r t e f = rw (passed_two bytes j (omega arith), ← s, r, t, e, f) (refl, omega arith)

-- all 510 bytes are passed
totals_all : (bytes : List ℕ) → total_of_totals (passed bytes 0) ≡ weighed bytes 510
unfolding passed
totals_all bytes =
    totals_weighed (padded bytes 510) ∙ ap (weighed (padded bytes 510)) (length_padded bytes 510) ∙ weighed_padded bytes 510

pub check_done : (bytes : List ℕ) (i totals : ℕ) → i ≡ 0 → totals ≡ 1 + total_of_totals (passed bytes i) → totals % 65521 ≡ check_of bytes
unfolding check_of
check_done bytes i totals e t = rw (t, e, totals_all)

pub differs : (bytes : List ℕ) (found low high : ℕ) → found ≡ check_of bytes → low ≡ byte_at bytes 510 → high ≡ byte_at bytes 511
    → not (eqb found (low + 256 * high)) ≡ check_wrong bytes
unfolding check_wrong
differs bytes found low high f l h = rw (f, l, h)
