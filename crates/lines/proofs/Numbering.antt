-- A list worked out key by key is right, and no other is: where keys rise with their numbers, every possible key has a number, and the tests tell of each key
-- whether it is sure and whether it is possible.
use Prim.Native.Nat.{ℕ, zero, suc, ◌<◌}
use native.Mathlib.Decide.{dec_lt}
use native.Mathlib.Omega.{arith}
use mathlib.Core.Path.{◌≡◌, refl}
use mathlib.Core.Bool.{Bool, true, false}
use mathlib.Core.Logic.{◌↔◌, ⊎_elim}
use mathlib.Core.List.Memᴰ
use mathlib.Core.List.{List, [], ◌∷◌, ◌++◌}
use Rattle.rt0.specs.Credential.{◌∈◌}
use Rattle.base.proofs.Flags.{clash_flag, not_true_false}
use Rattle.lines.specs.Right.{Mark, SURE, MAYBE, Line, line, Rises, RightMark, RightList}
use Rattle.lines.specs.Numbered.{line_for, numbered}
use Rattle.lines.proofs.Once.{OneWay, right_once}

-- the mark that two tests give
abbrev MarkedBy : Bool → Bool → Mark → Type 0
MarkedBy sure possible SURE = sure ≡ true
MarkedBy sure possible MAYBE = (sure ≡ false) × (possible ≡ true)

module _ {K : Type 0} where
  -- the line of a key by its tests
  for_has : (k : K) (sure possible : Bool) (l : Line K) → l ∈ line_for k sure possible → (l.key ≡ k) × MarkedBy sure possible l.mark
  for_has k true possible l i =
      let e : l ≡ line k SURE = Memᴰ.eq_of_singleton i in
      rw e (refl, refl)
  for_has k false true l i =
      let e : l ≡ line k MAYBE = Memᴰ.eq_of_singleton i in
      rw e (refl, (refl, refl))
  for_has k false false l i = absurd (Memᴰ.not-nil i)

  for_holds : (k : K) (sure possible : Bool) (m : Mark) → MarkedBy sure possible m → line k m ∈ line_for k sure possible
  for_holds k true possible SURE h = Memᴰ.head refl
  for_holds k true possible MAYBE h = absurd (clash_flag refl h.0)
  for_holds k false true SURE h = absurd (clash_flag h refl)
  for_holds k false true MAYBE h = Memᴰ.head refl
  for_holds k false false SURE h = absurd (clash_flag h refl)
  for_holds k false false MAYBE h = absurd (clash_flag h.1 refl)

  -- lines behind lines
  rises_both : (Before : K → K → Type 0) (xs ys : List (Line K)) → Rises Before xs → Rises Before ys
      → ((x y : Line K) → x ∈ xs → y ∈ ys → Before x.key y.key) → Rises Before (xs ++ ys)
  unfolding Rises
  rises_both Before [] ys p q h = q
  rises_both Before (x ∷ xs) ys p q h = (
    λ l i. ⊎_elim (p.0 l) (λ j. h x l (Memᴰ.head refl) j) (Memᴰ.append_cases xs i),
    rises_both Before xs ys p.1 q (λ l m i j. h l m (Memᴰ.tail i) j),
  )

  for_rises : (Before : K → K → Type 0) (k : K) (sure possible : Bool) → Rises Before (line_for k sure possible)
  unfolding Rises
  for_rises Before k true possible = (λ l i. absurd (Memᴰ.not-nil i), tt)
  for_rises Before k false true = (λ l i. absurd (Memᴰ.not-nil i), tt)
  for_rises Before k false false = tt

module _ {K : Type 0} (key : ℕ → K) (sure possible : ℕ → Bool) where
  numbered_has : (n : ℕ) (l : Line K) → l ∈ numbered key sure possible n → (i : ℕ) × (i < n) × (l ∈ line_for (key i) (sure i) (possible i))
  unfolding numbered
  numbered_has zero l j = absurd (Memᴰ.not-nil j)
  numbered_has (suc n) l j =
      ⊎_elim (λ k. let (i, b, m) = numbered_has n l k in (i, omega arith, m)) (λ k. (n, omega arith, k))
      (Memᴰ.append_cases (numbered key sure possible n) j)

  numbered_holds : (n i : ℕ) (l : Line K) → i < n → l ∈ line_for (key i) (sure i) (possible i) → l ∈ numbered key sure possible n
  unfolding numbered
  numbered_holds zero i l b j = absurd (omega arith)
  numbered_holds (suc n) i l b j = at (numbered_holds n i l) (dec_lt i n)
    where
      at : (i < n → l ∈ line_for (key i) (sure i) (possible i) → l ∈ numbered key sure possible n) → Dec (i < n)
          → l ∈ numbered key sure possible n ++ line_for (key n) (sure n) (possible n)
      at before (yes c) = Memᴰ.append_left _ (before c j)
      at before (no c) =
          let last : i ≡ n = omega arith in
          Memᴰ.append_right (numbered key sure possible n) (rw last at j)

  module _ (Before : K → K → Type 0) (rising : (i j : ℕ) → i < j → Before (key i) (key j)) where
    numbered_rises : (n : ℕ) → Rises Before (numbered key sure possible n)
    unfolding numbered Rises
    numbered_rises zero = tt
    numbered_rises (suc n) =
        rises_both Before (numbered key sure possible n) (line_for (key n) (sure n) (possible n)) (numbered_rises n)
        (for_rises Before (key n) (sure n) (possible n))
        (λ x y i j.
        let (k, b, m) = numbered_has n x i in
        let first : x.key ≡ key k = (for_has (key k) (sure k) (possible k) x m).0 in
        let last : y.key ≡ key n = (for_has (key n) (sure n) (possible n) y j).0 in
        rw (first, last) (rising k n b))

    module _ (Sure Possible : K → Type 0) (n : ℕ) (weaker : (k : K) → Sure k → Possible k)
        (found : (k : K) → Possible k → (i : ℕ) × (i < n) × (k ≡ key i))
        (sure_told : (i : ℕ) → i < n → (sure i ≡ true) ↔ Sure (key i)) (possible_told : (i : ℕ) → i < n → (possible i ≡ true) ↔ Possible (key i)) where
      marked_right : (i : ℕ) → i < n → (m : Mark) → MarkedBy (sure i) (possible i) m ↔ RightMark (Sure (key i)) (Possible (key i)) m
      marked_right i b SURE = sure_told i b
      marked_right i b MAYBE = (
        λ h. ((possible_told i b).0 h.1, λ s. clash_flag ((sure_told i b).1 s) h.0),
        λ h. (not_true_false (sure i) (λ t. h.1 ((sure_told i b).0 t)), (possible_told i b).1 h.0),
      )

      mark_possible : (k : K) (m : Mark) → RightMark (Sure k) (Possible k) m → Possible k
      mark_possible k SURE h = weaker k h
      mark_possible k MAYBE h = h.0

      listed : (k : K) (m : Mark) → line k m ∈ numbered key sure possible n → RightMark (Sure k) (Possible k) m
      listed k m j =
          let (i, b, l) = numbered_has n (line k m) j in
          let (e, marked) = for_has _ _ _ (line k m) l in
          rw e ((marked_right i b m).0 marked)

      lists : (k : K) (m : Mark) → RightMark (Sure k) (Possible k) m → line k m ∈ numbered key sure possible n
      lists k m h =
          let (i, b, e) = found k (mark_possible k m h) in
          rw e (numbered_holds n i (line (key i) m) b (for_holds (key i) _ _ m ((marked_right i b m).1 (rw e at h))))

      pub numbered_right : RightList Before Sure Possible (numbered key sure possible n)
      numbered_right = record { rises = numbered_rises n; lines = λ k m. (listed k m, lists k m) }

      -- and it is the only one
      pub numbered_only : OneWay Before → (others : List (Line K)) → RightList Before Sure Possible others → others ≡ numbered key sure possible n
      numbered_only one_way others r = right_once Before one_way others (numbered key sure possible n) r numbered_right
