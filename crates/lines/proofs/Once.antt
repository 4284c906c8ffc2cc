-- Two right lists are equal, over any keys whose order goes one way only.
use mathlib.Core.Path.{◌≡◌, refl, sym, ap₂, ◌∙◌}
use mathlib.Core.Logic.Iff
use mathlib.Core.Logic.{◌⊎◌, inl, inr, ◌↔◌}
use mathlib.Core.List.Memᴰ
use mathlib.Core.List.{List, [], ◌∷◌}
use Rattle.rt0.specs.Credential.{◌∈◌}
use Rattle.lines.specs.Right.{Line, Rises, RightList}

-- of two keys that are in order, the second does not stand before the first
abbrev pub OneWay : {K : Type 0} → (K → K → Type 0) → Type 0
OneWay {K} Before = (k l : K) → Before k l → Before l k → ⊥

module _ {K : Type 0} (Before : K → K → Type 0) (one_way : OneWay Before) where
  -- where lists that rise have the same lines, their first lines are the same, and so are the lines behind these
  first_same : (x y : Line K) (xs ys : List (Line K)) → Rises Before (x ∷ xs) → Rises Before (y ∷ ys) → (x ≡ y) ⊎ (x ∈ ys) → (y ≡ x) ⊎ (y ∈ xs)
      → x ≡ y
  unfolding Rises
  first_same x y xs ys p q (inl e) b = e
  first_same x y xs ys p q (inr i) (inl e) = sym e
  first_same x y xs ys p q (inr i) (inr j) = absurd (one_way x.key y.key (p.0 y j) (q.0 x i))

  later : (x y l : Line K) (xs ys : List (Line K)) → x ≡ y → Rises Before (x ∷ xs) → l ∈ xs → (l ≡ y) ⊎ (l ∈ ys) → l ∈ ys
  unfolding Rises
  later x y l xs ys e p i (inl f) =
      let same : l ≡ x = f ∙ sym e in
      let before : Before x.key x.key = rw same at (p.0 l i) in
      absurd (one_way x.key x.key before before)
  later x y l xs ys e p i (inr j) = j

  rises_later : (x : Line K) (xs : List (Line K)) → Rises Before (x ∷ xs) → Rises Before xs
  unfolding Rises
  rises_later x xs p = p.1

  same_lists : (xs ys : List (Line K)) → Rises Before xs → Rises Before ys → ((l : Line K) → (l ∈ xs) ↔ (l ∈ ys)) → xs ≡ ys
  same_lists [] [] p q s = refl
  same_lists [] (y ∷ ys) p q s = absurd (Memᴰ.not-nil ((s y).1 (Memᴰ.head refl)))
  same_lists (x ∷ xs) [] p q s = absurd (Memᴰ.not-nil ((s x).0 (Memᴰ.head refl)))
  same_lists (x ∷ xs) (y ∷ ys) p q s =
      let e : x ≡ y =
      first_same x y xs ys p q (Memᴰ.cases_cons ((s x).0 (Memᴰ.head refl))) (Memᴰ.cases_cons ((s y).1 (Memᴰ.head refl))) in
      ap₂ (λ (l : Line K) (ls : List (Line K)). l ∷ ls) e
      (same_lists xs ys (rises_later x xs p) (rises_later y ys q) (λ l. (
        λ i. later x y l xs ys e p i (Memᴰ.cases_cons ((s l).0 (Memᴰ.tail i))),
        λ i. later y x l ys xs (sym e) q i (Memᴰ.cases_cons ((s l).1 (Memᴰ.tail i))),
      )))

  -- two right lists are equal
  pub right_once : {Sure Possible : K → Type 0} (xs ys : List (Line K)) → RightList Before Sure Possible xs → RightList Before Sure Possible ys → xs ≡ ys
  right_once xs ys r s =
      same_lists xs ys r.rises s.rises (λ l. Iff.trans (r.lines l.key l.mark) (Iff.symm (s.lines l.key l.mark)))
