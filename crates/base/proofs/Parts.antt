-- A part of a list that a function is lent: what the function found of the part holds of the list's own part.
use Prim.Native.Nat.{ℕ, ◌+◌, ◌-◌}
use mathlib.Core.Path.{◌≡◌, ap, ◌∙◌}
use mathlib.Core.List.{List}
use native.Mathlib.Omega.{arith}
use lib.ListN.{take, drop}

-- the part from byte start to byte start + size has size bytes
pub part_is : (bytes : List ℕ) (start size : ℕ) → take (start + size - start) (drop start bytes) ≡ take size (drop start bytes)
part_is bytes start size =
    let e : start + size - start ≡ size = omega arith in
    ap (λ (n : ℕ). take n (drop start bytes)) e

-- what a function found of the part
pub found_part : {A : Type 0} (f : List ℕ → A) (bytes : List ℕ) (start size : ℕ) (found : A)
    → found ≡ f (take (start + size - start) (drop start bytes)) → found ≡ f (take size (drop start bytes))
found_part f bytes start size found e = e ∙ ap f (part_is bytes start size)
