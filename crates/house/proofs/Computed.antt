-- What one computed equation over a list says of each item.
use mathlib.Core.Path.{◌≡◌}
use mathlib.Core.List.Memᴰ
use mathlib.Core.List.{List, ◌∷◌, map}
use Rattle.rt0.specs.Credential.{◌∈◌}

pub same_at : {A B : Type 0} (f g : A → B) (xs : List A) → map f xs ≡ map g xs → (x : A) → x ∈ xs → f x ≡ g x
same_at {A = A} {B = B} f g mathlib.Core.List.[] e x x4 = elim x4 [ ]
same_at f g (y ∷ ys) e x (Memᴰ.head q) = let first : f y ≡ g y = cc in rw q first
same_at f g (y ∷ ys) e x (Memᴰ.tail i) = same_at f g ys (cc) x i
