-- Lists put together from parts, and the numbers from 1 to n: what occurs in them, and how many there are.
use Prim.Native.Nat.{ℕ, zero, suc, ◌≤◌}
use native.Mathlib.Decide.{ℕ_discrete}
use native.Mathlib.Omega.{arith}
use mathlib.Core.Path.{◌≡◌, refl, ap}
use mathlib.Core.Logic.{◌⊎◌, inl, inr, ⊎_elim}
use mathlib.Core.List.Memᴰ
use mathlib.Core.List.{List, [], ◌∷◌, flat_map}
use lib.ListN.{length}
use Rattle.rt0.specs.Credential.{◌∈◌}

-- what occurs in a list put together from parts occurs in a part, and the other way round
pub flat_map_has : {A B : Type 0} (f : A → List B) (l : List A) (b : B) → b ∈ flat_map f l → (a : A) × (a ∈ l) × (b ∈ f a)
unfolding flat_map
flat_map_has f [] b i = absurd (Memᴰ.not-nil i)
flat_map_has {A} {B} f (x ∷ xs) b i = from (λ j. flat_map_has f xs b j) (Memᴰ.append_cases (f x) i)
  where
    from : (b ∈ flat_map f xs → (a : A) × (a ∈ xs) × (b ∈ f a)) → (b ∈ f x) ⊎ (b ∈ flat_map f xs)
        → (a : A) × (a ∈ x ∷ xs) × (b ∈ f a)
    from later (inl j) = (x, Memᴰ.head refl, j)
    from later (inr j) = let (a, k, m) = later j in (a, Memᴰ.tail k, m)

pub flat_map_holds : {A B : Type 0} (f : A → List B) (a : A) (b : B) {l : List A} → a ∈ l → b ∈ f a → b ∈ flat_map f l
unfolding flat_map
flat_map_holds f a b (Memᴰ.head {xs = xs} e) j = Memᴰ.append_left (flat_map f xs) (rw e at j)
flat_map_holds f a b (Memᴰ.tail {x = x} i) j = Memᴰ.append_right (f x) (flat_map_holds f a b i j)

-- the numbers from 1 to n
unfoldable pub up_to : ℕ → List ℕ
up_to zero = []
up_to (suc n) = suc n ∷ up_to n

pub up_to_has : (n k : ℕ) → k ∈ up_to n → (1 ≤ k) × (k ≤ n)
unfolding up_to
up_to_has zero k i = absurd (Memᴰ.not-nil i)
up_to_has (suc n) k i = ⊎_elim
    (λ (e : k ≡ suc n). omega arith)
    (λ (j : k ∈ up_to n). omega (arith, up_to_has n k j))
    (Memᴰ.cases_cons i)

pub up_to_holds : (n k : ℕ) → 1 ≤ k → k ≤ n → k ∈ up_to n
unfolding up_to
up_to_holds zero k a w = absurd (omega arith)
up_to_holds (suc n) k a w = from (up_to_holds n k a) (ℕ_discrete k (suc n))
  where
    from : (k ≤ n → k ∈ up_to n) → Dec (k ≡ suc n) → k ∈ suc n ∷ up_to n
    from below (yes e) = Memᴰ.head e
    from below (no e) = Memᴰ.tail (below (omega arith))

pub length_up_to : (n : ℕ) → length (up_to n) ≡ n
unfolding up_to
length_up_to zero = refl
length_up_to (suc n) = ap suc (length_up_to n)
