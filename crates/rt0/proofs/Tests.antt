-- Tests that compute, and what they say when they come out true: both of two, every item of a list, the same words.
use Prim.Native.Nat.{ℕ}
use mathlib.Core.Path.{◌≡◌, refl, sym, ap₂, ◌∙◌}
use mathlib.Core.Bool.{Bool, true, false, ◌&&◌, false≢true, and-eq-true_iff}
use mathlib.Core.Logic.{◌⊎◌, inl, inr}
use mathlib.Core.List.Memᴰ
use mathlib.Core.List.{List, [], ◌∷◌}
use lib.Dec.{eqb}
use borrow.Author.Tests.{eqb-true, eq-eqb}
use Rattle.rt0.specs.Credential.{◌∈◌}

pub true_or_false : (a : Bool) → (a ≡ true) ⊎ (a ≡ false)
true_or_false true = inl refl
true_or_false false = inr refl

pub both_true : (a b : Bool) → (a && b) ≡ true → (a ≡ true) × (b ≡ true)
both_true a b = (and-eq-true_iff a b).0

-- every item of a list passes
unfoldable pub every : {A : Type 0} → (A → Bool) → List A → Bool
every p [] = true
every p (x ∷ xs) = p x && every p xs

pub every_true : {A : Type 0} (p : A → Bool) (xs : List A) → every p xs ≡ true → (x : A) → x ∈ xs → p x ≡ true
unfolding every
every_true {A = A} p [] e x x4 = elim x4 [ ]
every_true p (y ∷ ys) e x (Memᴰ.head q) = rw q (both_true (p y) (every p ys) e).0
every_true p (y ∷ ys) e x (Memᴰ.tail i) = every_true p ys (both_true (p y) (every p ys) e).1 x i

-- words compared one by one
unfoldable pub same_words : List ℕ → List ℕ → Bool
same_words [] [] = true
same_words [] (w ∷ ws) = false
same_words (v ∷ vs) [] = false
same_words (v ∷ vs) (w ∷ ws) = eqb v w && same_words vs ws

pub same_words_lem : (vs ws : List ℕ) → same_words vs ws ≡ true → vs ≡ ws
unfolding same_words
same_words_lem [] [] e = refl
same_words_lem [] (w ∷ ws) e = absurd (false≢true e)
same_words_lem (v ∷ vs) [] e = absurd (false≢true e)
same_words_lem (v ∷ vs) (w ∷ ws) e =
    let h : (eqb v w ≡ true) × (same_words vs ws ≡ true) = both_true (eqb v w) (same_words vs ws) e in
    ap₂ ◌∷◌ (eqb-true v w h.0) (same_words_lem vs ws h.1)

words_same : (ws : List ℕ) → same_words ws ws ≡ true
unfolding same_words
words_same [] = refl
words_same (w ∷ ws) = rw (eq-eqb w w refl, words_same ws)

pub words_differ : (vs ws : List ℕ) → same_words vs ws ≡ false → vs ≡ ws → ⊥
words_differ vs ws e q = false≢true (sym e ∙ rw q (words_same ws))
