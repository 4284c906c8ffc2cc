-- Items of a list by their numbers (`get_elem?`, counted from 0): where an item stands, in a longer list and in a part; and the
-- pigeonhole: n numbers with an item each, no item twice, need a list of at least n items.
use Prim.Native.Nat.{ℕ, zero, suc, ◌≤◌, ◌<◌}
use native.Mathlib.Nat.{not-suc-le-zero, le_of_suc-le-suc}
use native.Mathlib.Omega.{arith}
use mathlib.Core.Path.{◌≡◌, refl, sym, ap}
use mathlib.Core.Option.{some, some-injective, none-ne-some}
use mathlib.Core.List.Memᴰ
use mathlib.Core.List.{List, [], ◌∷◌, ◌++◌}
use mathlib.Core.Logic.{◌≢◌, ◌⊎◌, inl, inr}
use lib.ListN.{length, take, get_elem?}
use Rattle.rt0.specs.Credential.{◌∈◌}

module _ {A : Type 0} where
  pub item_within : (l : List A) (n : ℕ) (a : A) → get_elem? l n ≡ some a → n < length l
  item_within [] n a e = absurd (none-ne-some a e)
  item_within (x ∷ l) zero a e = omega arith
  item_within (x ∷ l) (suc n) a e = let h : n < length l = item_within l n a e in omega arith

  pub item_occurs : (l : List A) (n : ℕ) (a : A) → get_elem? l n ≡ some a → a ∈ l
  item_occurs [] n a e = absurd (none-ne-some a e)
  item_occurs (x ∷ l) zero a e = Memᴰ.head (sym (some-injective x a e))
  item_occurs (x ∷ l) (suc n) a e = Memᴰ.tail (item_occurs l n a e)

  pub occurs_item : {a : A} {l : List A} → a ∈ l → (n : ℕ) × (get_elem? l n ≡ some a)
  occurs_item (Memᴰ.head e) = (zero, ap some (sym e))
  occurs_item (Memᴰ.tail m) = let r = occurs_item m in (suc r.0, r.1)

  -- every number below the length has its item
  pub item_there : (l : List A) (n : ℕ) → n < length l → (a : A) × (get_elem? l n ≡ some a)
  item_there [] n h = absurd (not-suc-le-zero h)
  item_there (x ∷ l) zero h = (x, refl)
  item_there (x ∷ l) (suc n) h = item_there l n (le_of_suc-le-suc h)

  pub item_append : (l m : List A) (n : ℕ) → n < length l → get_elem? (l ++ m) n ≡ get_elem? l n
  item_append [] m n h = absurd (not-suc-le-zero h)
  item_append (x ∷ l) m zero h = refl
  item_append (x ∷ l) m (suc n) h = item_append l m n (le_of_suc-le-suc h)

  pub item_last : (l : List A) (a : A) → get_elem? (l ++ (a ∷ [])) (length l) ≡ some a
  item_last [] a = refl
  item_last (x ∷ l) a = item_last l a

  pub item_take : (m : ℕ) (l : List A) (n : ℕ) → n < m → get_elem? (take m l) n ≡ get_elem? l n
  item_take zero l n h = absurd (not-suc-le-zero h)
  item_take (suc m) [] n h = refl
  item_take (suc m) (x ∷ l) zero h = refl
  item_take (suc m) (x ∷ l) (suc n) h = item_take m l n (le_of_suc-le-suc h)

  -- an item of a list with one more item at its end
  pub item_cases : (l : List A) (a : A) (n : ℕ) (b : A) → get_elem? (l ++ (a ∷ [])) n ≡ some b
      → (get_elem? l n ≡ some b) ⊎ ((n ≡ length l) × (a ≡ b))
  item_cases [] a zero b e = inr (refl, some-injective a b e)
  item_cases [] a (suc n) b e = inl e
  item_cases (x ∷ l) a zero b e = inl e
  item_cases (x ∷ l) a (suc n) b e = raised (item_cases l a n b e)
    where
      raised : (get_elem? l n ≡ some b) ⊎ ((n ≡ length l) × (a ≡ b)) → (get_elem? l n ≡ some b) ⊎ ((suc n ≡ suc (length l)) × (a ≡ b))
      raised (inl i) = inl i
      raised (inr i) = inr (ap suc i.0, i.1)

  -- the list without one occurrence of an item
  without : {a : A} (l : List A) → a ∈ l → List A
  without {a = a} [] x' = elim x' [ ]
  without (x ∷ l) (Memᴰ.head e) = l
  without (x ∷ l) (Memᴰ.tail m) = x ∷ without l m

  length_without : {a : A} (l : List A) (i : a ∈ l) → suc (length (without l i)) ≡ length l
  unfolding without
  length_without {a = a} [] i = elim i [ ]
  length_without (x ∷ l) (Memᴰ.head e) = refl
  length_without (x ∷ l) (Memᴰ.tail m) = ap suc (length_without l m)

  others_stay : {a b : A} (l : List A) (i : a ∈ l) → b ≢ a → b ∈ l → b ∈ without l i
  unfolding without
  others_stay {a = a} {b = b} [] i ne _ = elim i [ ]
  others_stay (x ∷ l) (Memᴰ.head e) ne (Memᴰ.head e') = absurd (ne (cc))
  others_stay (x ∷ l) (Memᴰ.head e) ne (Memᴰ.tail m') = m'
  others_stay (x ∷ l) (Memᴰ.tail m) ne (Memᴰ.head e') = Memᴰ.head e'
  others_stay (x ∷ l) (Memᴰ.tail m) ne (Memᴰ.tail m') = Memᴰ.tail (others_stay l m ne m')

  -- the pigeonhole, over any relation of numbers and items
  pub pigeonhole : (P : ℕ → A → Type 0) → ((m n : ℕ) (a : A) → P m a → P n a → m ≡ n)
      → (n : ℕ) (l : List A) → ((m : ℕ) → m < n → (a : A) × P m a × (a ∈ l)) → n ≤ length l
  pigeonhole P once zero l h = omega arith
  pigeonhole P once (suc n) l h =
      let top = h n (omega arith) in
      let fewer : n ≤ length (without l top.2) = pigeonhole P once n (without l top.2) (others top.0 top.1 top.2) in
      omega (arith, length_without l top.2)
    where
      others : (a : A) → P n a → (i : a ∈ l) → (m : ℕ) → m < n → (b : A) × P m b × (b ∈ without l i)
      others a p i m lt =
          let x = h m (omega arith) in
          let differs : x.0 ≢ a = λ e. let same : m ≡ n = once m n x.0 x.1 (rw e p) in omega arith in
          (x.0, x.1, others_stay l i differs x.2)
