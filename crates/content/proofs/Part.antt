-- The bytes of a list after a part of it was lent and came back.
use Prim.Native.Nat.{ℕ, ◌+◌, ◌-◌, ◌<◌, ◌≤◌}
use mathlib.Core.Path.{◌≡◌, ◌∙◌}
use mathlib.Core.List.{List, ◌++◌}
use native.Mathlib.Omega.{arith}
use lib.ListN.{length, length-append, length-drop, take, drop, get_or-append}
use lib.Seq.{get_or-take, get_or-drop, get_or-append-add, length-take-le}
use Rattle.base.specs.Byte.{byte_at}

-- a part of a list put back with other bytes: `take a xs ++ (ys ++ drop k (drop a xs))` is what a lent part leaves
module _ (xs ys : List ℕ) (a k : ℕ) (size : length ys ≡ k) (fits : a + k ≤ length xs) where
  front : length (take a xs) ≡ a
  front = length-take-le a xs (omega arith)

  behind : (i : ℕ) → a ≤ i → byte_at (take a xs ++ (ys ++ drop k (drop a xs))) i ≡ byte_at (ys ++ drop k (drop a xs)) (i - a)
  behind i l =
      let at : length (take a xs) + (i - a) ≡ i = omega (arith, front) in
      rw at at (get_or-append-add (take a xs) (ys ++ drop k (drop a xs)) (i - a) 0)

  pub part_here : (i : ℕ) → a ≤ i → i < a + k → byte_at (take a xs ++ (ys ++ drop k (drop a xs))) i ≡ byte_at ys (i - a)
  part_here i l m = behind i l ∙ get_or-append ys (drop k (drop a xs)) 0 (i - a) (omega arith)

  pub part_before : (i : ℕ) → i < a → byte_at (take a xs ++ (ys ++ drop k (drop a xs))) i ≡ byte_at xs i
  part_before i l =
      get_or-append (take a xs) (ys ++ drop k (drop a xs)) 0 i (omega (arith, front)) ∙ get_or-take a xs i 0 l

  pub part_after : (i : ℕ) → a + k ≤ i → byte_at (take a xs ++ (ys ++ drop k (drop a xs))) i ≡ byte_at xs i
  part_after i l =
      let at : length ys + (i - a - k) ≡ i - a = omega arith in
      let there : a + (k + (i - a - k)) ≡ i = omega arith in
      behind i (omega arith) ∙ rw at at (get_or-append-add ys (drop k (drop a xs)) (i - a - k) 0)
      ∙ get_or-drop k (drop a xs) (i - a - k) 0 ∙ rw there at (get_or-drop a xs (k + (i - a - k)) 0)

  pub part_length : length (take a xs ++ (ys ++ drop k (drop a xs))) ≡ length xs
  part_length = rw (length-append, length-append, front, length-drop, length-drop) (omega arith)
