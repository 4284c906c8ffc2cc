-- The first n bytes of a list, with 0 for each that the list does not have, and their weighed sum.
use Prim.Native.Nat.{ℕ, zero, suc, ◌<◌}
use mathlib.Core.Path.{◌≡◌, refl, ap}
use mathlib.Core.List.{List, [], ◌∷◌}
use lib.ListN.{length}
use native.Mathlib.Omega.{arith}
use Rattle.base.specs.Byte.{byte_at}
use Rattle.block.specs.Block.{weighed}

unfoldable pub padded : List ℕ → ℕ → List ℕ
padded bytes zero = []
padded [] (suc n) = 0 ∷ padded [] n
padded (b ∷ bytes) (suc n) = b ∷ padded bytes n

pub length_padded : (bytes : List ℕ) (n : ℕ) → length (padded bytes n) ≡ n
unfolding padded
length_padded bytes zero = refl
length_padded [] (suc n) = ap suc (length_padded [] n)
length_padded (b ∷ bytes) (suc n) = ap suc (length_padded bytes n)

pub byte_padded : (bytes : List ℕ) (n i : ℕ) → i < n → byte_at (padded bytes n) i ≡ byte_at bytes i
unfolding padded
byte_padded bytes zero i h = absurd (omega arith)
byte_padded [] (suc n) zero h = refl
byte_padded [] (suc n) (suc i) h = byte_padded [] n i (omega arith)
byte_padded (b ∷ bytes) (suc n) zero h = refl
byte_padded (b ∷ bytes) (suc n) (suc i) h = byte_padded bytes n i (omega arith)

-- the sum needs nothing of a list but the bytes that it counts
weighed_same : (xs ys : List ℕ) (n : ℕ) → ((i : ℕ) → i < n → byte_at xs i ≡ byte_at ys i) → weighed xs n ≡ weighed ys n
unfolding weighed
weighed_same xs ys zero h = refl
weighed_same xs ys (suc n) h = rw (weighed_same xs ys n (λ i l. h i (omega arith)), h n (omega arith))

pub weighed_padded : (bytes : List ℕ) (n : ℕ) → weighed (padded bytes n) n ≡ weighed bytes n
weighed_padded bytes n = weighed_same (padded bytes n) bytes n (byte_padded bytes n)
