-- Totals over a list: what each item adds, added up. A total that every item keeps or lowers falls, unless every item kept it.
-- So a process that lowers a total whenever it changes anything ends.
use Prim.Native.Nat.{ℕ, ◌+◌, ◌*◌, ◌≤◌}
use native.Mathlib.Nat.{mul-suc}
use native.Mathlib.Omega.{arith}
use mathlib.Core.Path.{◌≡◌}
use mathlib.Core.List.Memᴰ
use mathlib.Core.List.{List, [], ◌∷◌}
use lib.ListN.{length}
use Rattle.rt0.specs.Credential.{◌∈◌}

module _ {A : Type 0} where
  pub total : (A → ℕ) → List A → ℕ
  total f [] = 0
  total f (x ∷ xs) = f x + total f xs

  pub total_most : (f : A → ℕ) (k : ℕ) → ((x : A) → f x ≤ k) → (xs : List A) → total f xs ≤ k * length xs
  unfolding total
  total_most f k h [] = omega arith
  total_most f k h (x ∷ xs) = rw mul-suc (omega (arith, h x, total_most f k h xs))

  pub total_le : (f g : A → ℕ) → ((x : A) → f x ≤ g x) → (xs : List A) → total f xs ≤ total g xs
  unfolding total
  total_le f g h [] = omega arith
  total_le f g h (x ∷ xs) = omega (arith, h x, total_le f g h xs)

  -- a total that did not fall: no item did
  pub total_kept : (f g : A → ℕ) → ((x : A) → f x ≤ g x) → (xs : List A) → total g xs ≤ total f xs → (x : A) → x ∈ xs → f x ≡ g x
  unfolding total
  total_kept f g h [] l x x4 = elim x4 [ ]
  total_kept f g h (y ∷ ys) l x (Memᴰ.head e) = rw e (omega (arith, h y, total_le f g h ys))
  total_kept f g h (y ∷ ys) l x (Memᴰ.tail i) = total_kept f g h ys (omega (arith, h y)) x i
