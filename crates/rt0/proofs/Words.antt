-- The words that a round and its start are made of: which bits they have, and that they are small where the table's words are.
-- For a link, an intersection, the words of nobody and of everyone, and a list of words with one more or one changed.
use Prim.Native.Nat.{ℕ, zero, suc, ◌-◌, ◌/◌, ◌%◌, ◌^◌, ◌<◌, ◌≤◌}
use native.Mathlib.Nat.{eq-or-lt_of_le, le_of_suc-le-suc}
use native.Mathlib.Numerals.{sub-one}
use native.Mathlib.Omega.{arith}
use mathlib.Core.Path.{◌≡◌, refl, sym, ◌∙◌, subst}
use mathlib.Core.Bool.{Bool, true, false, ◌&&◌, false≢true, and-eq-true_iff}
use mathlib.Core.Logic.Iff
use mathlib.Core.Logic.{◌↔◌, ◌⊎◌, inl, inr, ⊎_elim, ⊎_map}
use mathlib.Core.List.Memᴰ
use mathlib.Core.List.{List, ◌++◌, ◌∷◌, []}
use lib.ListN.{length, get_or, set, length-replicate, length-append, get_or-append}
use lib.Seq.{get_or_at}
use lib.Dec.{eqb, leb}
use lib.Bits.{or_lt, and_lt}
use lib.Pow.{pow_pos, ones_lt}
use borrow.Author.Tests.{eqb-true, eqb-false, leb-true, le-leb}
use Rattle.rt0.specs.Credential.{Role, ◌·◌, ◌∈◌, IsEntity}
use Rattle.rt0.specs.Completion.{Open}
use Rattle.rt0.specs.Word.{bit, word_at, pick_word, link_word, meet_word, none_words, everyone_word, open_within, open_words}
use Rattle.rt0.proofs.Bits.{bit_zero, bit_or_lem, bit_and_lem, bit_ones}

-- a sum by its two parts
pub sum_iff : {A B C D : Type 0} → A ↔ C → B ↔ D → (A ⊎ B) ↔ (C ⊎ D)
unfolding ⊎_map
sum_iff h k = (⊎_map h.0 k.0, ⊎_map h.1 k.1)

pub entity_wider : {E B A : ℕ} → E ≤ B → IsEntity E A → IsEntity B A
entity_wider h a = omega arith

-- a picked word has the bits of v where x is 1
pick_bit : (x v d : ℕ) → (bit (pick_word (eqb x 1) v 0) d ≡ 1) ↔ ((x ≡ 1) × (bit v d ≡ 1))
pick_bit x v d = by_test (eqb x 1) refl
  where
    by_test : (t : Bool) → eqb x 1 ≡ t → (bit (pick_word t v 0) d ≡ 1) ↔ ((x ≡ 1) × (bit v d ≡ 1))
    by_test true e = (λ b. (eqb-true x 1 e, b), λ h. h.1)
    by_test false e = (λ b. absurd (omega (arith, bit_zero d)), λ h. absurd (eqb-false x 1 e h.0))

module _ (W : ℕ) (ws : List ℕ) (w r2 d : ℕ) where
  -- entity d + 1 is in X.r2
  abbrev InRole : ℕ → Type 0
  InRole X = bit (word_at W ws (X · r2)) d ≡ 1

  -- entity d + 1 is in X.r2 for an X up to n in the word w
  abbrev Linked : ℕ → Type 0
  Linked n = (X : ℕ) × IsEntity n X × (bit w (X - 1) ≡ 1) × InRole X

  -- either for an X up to n or for n + 1
  linked_suc : (n : ℕ) → (Linked n ⊎ ((bit w n ≡ 1) × InRole (suc n))) ↔ Linked (suc n)
  linked_suc n = (⊎_elim earlier last, λ h. split h (eq-or-lt_of_le h.1.within))
    where
      earlier : Linked n → Linked (suc n)
      earlier h = (h.0, entity_wider (omega arith) h.1, h.2, h.3)

      last : (bit w n ≡ 1) × InRole (suc n) → Linked (suc n)
      last h = (suc n, omega arith, rw (sub-one (suc n)) h.0, h.1)

      split : (h : Linked (suc n)) → (h.0 ≡ suc n) ⊎ (h.0 < suc n) → Linked n ⊎ ((bit w n ≡ 1) × InRole (suc n))
      split h (inl e) = inr (rw (e, sub-one (suc n)) at h.2, rw e at h.3)
      split h (inr l) = inl (h.0, omega arith, h.2, h.3)

  pub link_bit : (n : ℕ) → (bit (link_word W ws w r2 n) d ≡ 1) ↔ Linked n
  unfolding link_word
  link_bit zero = (λ b. absurd (omega (arith, bit_zero d)), λ h. absurd (omega arith))
  link_bit (suc n) =
      Iff.trans (bit_or_lem (link_word W ws w r2 n) (pick_word (eqb (bit w n) 1) (word_at W ws (suc n · r2)) 0) d)
      (Iff.trans (sum_iff (link_bit n) (pick_bit (bit w n) (word_at W ws (suc n · r2)) d)) (linked_suc n))

-- of all the parts: of the first and of all the others
all_cons : (Q : Role → Type 0) (ρ : Role) (ρs : List Role)
    → (Q ρ × ((σ : Role) → σ ∈ ρs → Q σ)) ↔ ((σ : Role) → σ ∈ (ρ ∷ ρs) → Q σ)
all_cons Q ρ ρs = (
  λ h σ i. ⊎_elim (λ e. subst Q (sym e) h.0) (h.1 σ) (Memᴰ.cases_cons i),
  λ h. (h ρ (Memᴰ.head refl), λ σ i. h σ (Memᴰ.tail i)),
)

pub meet_bit : (W : ℕ) (ws : List ℕ) (ρ : Role) (ρs : List Role) (d : ℕ)
    → (bit (meet_word W ws (ρ ∷ ρs)) d ≡ 1) ↔ ((σ : Role) → σ ∈ (ρ ∷ ρs) → bit (word_at W ws σ) d ≡ 1)
unfolding meet_word
meet_bit W ws ρ [] d = (λ b σ i. rw (Memᴰ.eq_of_singleton i) b, λ h. h ρ (Memᴰ.head refl))
meet_bit W ws ρ (τ ∷ ρs) d =
    Iff.trans (bit_and_lem (word_at W ws ρ) (meet_word W ws (τ ∷ ρs)) d)
    (Iff.trans (Iff.and Iff.rfl (meet_bit W ws τ ρs d)) (all_cons (λ σ. bit (word_at W ws σ) d ≡ 1) ρ (τ ∷ ρs)))

-- links and intersections of small words are small
module _ (E W : ℕ) (ws : List ℕ) (small : (i : ℕ) → get_or ws i 0 < 2 ^ E) where
  pick_small : (t : Bool) (v : ℕ) → v < 2 ^ E → pick_word t v 0 < 2 ^ E
  pick_small true v h = h
  pick_small false v h = pow_pos E

  pub link_small : (w r2 n : ℕ) → link_word W ws w r2 n < 2 ^ E
  unfolding link_word
  link_small w r2 zero = pow_pos E
  link_small w r2 (suc n) = or_lt E _ _ (link_small w r2 n) (pick_small (eqb (bit w n) 1) _ (small _))

  pub meet_small : (ρs : List Role) → meet_word W ws ρs < 2 ^ E
  unfolding meet_word
  meet_small [] = pow_pos E
  meet_small (ρ ∷ []) = small _
  meet_small (ρ ∷ σ ∷ ρs) = and_lt E _ _ (small _) (meet_small (σ ∷ ρs))

-- a list of numbers below m stays one where one is changed or put at the end
module _ (m : ℕ) where
  pub set_small : (l : List ℕ) (i v : ℕ) → ((j : ℕ) → get_or l j 0 < m) → v < m → (j : ℕ) → get_or (set l i v) j 0 < m
  set_small [] i v h k j = h j
  set_small (x ∷ xs) zero v h k zero = k
  set_small (x ∷ xs) zero v h k (suc j) = h (suc j)
  set_small (x ∷ xs) (suc i) v h k zero = h zero
  set_small (x ∷ xs) (suc i) v h k (suc j) = set_small xs i v (λ j. h (suc j)) k j

  snoc_small : (l : List ℕ) (v : ℕ) → ((j : ℕ) → get_or l j 0 < m) → v < m → (j : ℕ) → get_or (l ++ (v ∷ [])) j 0 < m
  snoc_small [] v h k zero = k
  snoc_small [] v h k (suc j) = h j
  snoc_small (x ∷ xs) v h k zero = h zero
  snoc_small (x ∷ xs) v h k (suc j) = snoc_small xs v (λ j. h (suc j)) k j

-- the words of nobody
pub none_length : (n : ℕ) → length (none_words n) ≡ n
unfolding none_words
none_length n = length-replicate n 0

pub none_at : (n i : ℕ) → get_or (none_words n) i 0 ≡ 0
unfolding none_words
none_at zero i = refl
none_at (suc n) zero = refl
none_at (suc n) (suc i) = none_at n i

-- the word of everyone, and of nobody
pub everyone_bit : (E : ℕ) (t : Bool) (d : ℕ) → (bit (everyone_word E t) d ≡ 1) ↔ ((t ≡ true) × (d < E))
everyone_bit E true d = (λ b. (refl, (bit_ones E d).0 b), λ h. (bit_ones E d).1 h.1)
everyone_bit E false d = (λ b. absurd (omega (arith, bit_zero d)), λ h. absurd (false≢true h.0))

everyone_small : (E : ℕ) (t : Bool) → everyone_word E t < 2 ^ E
everyone_small E true = ones_lt E
everyone_small E false = pow_pos E

-- the words with everyone in every open role
module _ (E R W : ℕ) (is_open : Open) where
  -- whether the role of word i is open
  abbrev open_there : ℕ → Bool
  open_there i = open_within E R is_open (suc (i / W) · suc (i % W))

  abbrev open_word : ℕ → ℕ
  open_word i = everyone_word E (open_there i)

  pub open_length : (n : ℕ) → length (open_words E R W is_open n) ≡ n
  unfolding open_words
  open_length zero = refl
  open_length (suc n) = simp length-append (omega (arith, open_length n))

  pub open_small : (n i : ℕ) → get_or (open_words E R W is_open n) i 0 < 2 ^ E
  unfolding open_words
  open_small zero i = pow_pos E
  open_small (suc n) i =
      snoc_small (2 ^ E) (open_words E R W is_open n) (open_word n) (open_small n) (everyone_small E (open_there n)) i

  pub open_at : (n i : ℕ) → i < n → get_or (open_words E R W is_open n) i 0 ≡ open_word i
  unfolding open_words
  open_at zero i h = absurd (omega arith)
  open_at (suc n) i h = ⊎_elim last (λ l. earlier l ∙ open_at n i l) (eq-or-lt_of_le (le_of_suc-le-suc h))
    where
      last : i ≡ n → get_or (open_words E R W is_open (suc n)) i 0 ≡ open_word i
      last e = rw e (get_or_at (open_words E R W is_open n) (open_word n) [] 0 n (open_length n))

      earlier : i < n → get_or (open_words E R W is_open (suc n)) i 0 ≡ get_or (open_words E R W is_open n) i 0
      earlier l = get_or-append (open_words E R W is_open n) (open_word n ∷ []) 0 i (rw (open_length n) l)

pub within_open : (E R : ℕ) (is_open : Open) (A n : ℕ)
    → (open_within E R is_open (A · n) ≡ true) ↔ ((A ≤ E) × (n ≤ R) × (is_open (A · n) ≡ true))
within_open E R is_open A n = (
  λ e. let h : ((leb A E && leb n R) ≡ true) × (is_open (A · n) ≡ true) = (and-eq-true_iff _ _).0 e in
      let k : (leb A E ≡ true) × (leb n R ≡ true) = (and-eq-true_iff _ _).0 h.0 in
      (leb-true A E k.0, leb-true n R k.1, h.1),
  λ h. (and-eq-true_iff _ _).1 ((and-eq-true_iff _ _).1 (le-leb A E h.0, le-leb n R h.1), h.2),
)
