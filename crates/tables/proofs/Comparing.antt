-- Two lists compared behind a place.
use Prim.Native.Nat.{ℕ, ◌+◌, ◌-◌, ◌≤◌}
use native.Mathlib.Omega.{arith}
use mathlib.Core.Path.{◌≡◌}
use mathlib.Core.List.{List}
use lib.ListN.{drop}
use lib.Seq.{drop-drop}

-- lists that agree behind a place agree behind a later one
pub drop_later : (xs ys : List ℕ) (a b : ℕ) → a ≤ b → drop a xs ≡ drop a ys → drop b xs ≡ drop b ys
drop_later xs ys a b l e =
    let split : a + (b - a) ≡ b = omega arith in
    rw (← split, ← drop-drop (b - a) a xs, ← drop-drop (b - a) a ys, e)
