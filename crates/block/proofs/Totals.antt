-- How the keepers work a check on paper, by adding alone: from the last byte to the first they carry a running total, and a total of those
-- totals. The law: the total of the totals is the sum of (i + 1) times byte i, for a list of any length.
use Prim.Native.Nat.{ℕ, zero, suc, ◌+◌}
use mathlib.Core.Path.{◌≡◌, refl}
use mathlib.Core.List.{List, [], ◌∷◌}
use lib.ListN.{length}
use native.Mathlib.Omega.{arith}
use Rattle.base.specs.Byte.{byte_at}
use Rattle.block.specs.Block.{weighed}

-- the running total once the first byte is added
unfoldable pub running_total : List ℕ → ℕ
running_total [] = 0
running_total (b ∷ bytes) = running_total bytes + b

-- the total of the running totals: that of each byte counts as it is once the byte is added
unfoldable pub total_of_totals : List ℕ → ℕ
unfolding running_total
total_of_totals [] = 0
total_of_totals (b ∷ bytes) = total_of_totals bytes + running_total (b ∷ bytes)

-- the sum of the first n bytes
unfoldable summed : List ℕ → ℕ → ℕ
summed bytes zero = 0
summed bytes (suc i) = summed bytes i + byte_at bytes i

-- a byte in front counts once in the sum
summed_front : (b : ℕ) (bytes : List ℕ) (n : ℕ) → summed (b ∷ bytes) (suc n) ≡ b + summed bytes n
unfolding summed
summed_front b bytes zero = omega arith
summed_front b bytes (suc n) = rw (summed_front b bytes n) (omega arith)

-- and moves each other byte one place on, so that it counts once more
weighed_front : (b : ℕ) (bytes : List ℕ) (n : ℕ) → weighed (b ∷ bytes) (suc n) ≡ b + weighed bytes n + summed bytes n
unfolding weighed summed
weighed_front b bytes zero = omega arith
weighed_front b bytes (suc n) = rw (weighed_front b bytes n) (omega arith)

running_summed : (bytes : List ℕ) → running_total bytes ≡ summed bytes (length bytes)
unfolding running_total summed
running_summed [] = refl
running_summed (b ∷ bytes) = rw (summed_front, running_summed bytes) (omega arith)

pub totals_weighed : (bytes : List ℕ) → total_of_totals bytes ≡ weighed bytes (length bytes)
unfolding total_of_totals running_total weighed
totals_weighed [] = refl
totals_weighed (b ∷ bytes) = rw (weighed_front, totals_weighed bytes, running_summed bytes) (omega arith)
