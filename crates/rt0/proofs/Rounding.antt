-- What a round does to single words: it keeps every bit that is set, and it changes no word but that of a head.
-- And how many entities a word lacks: what falls when a bit is set.
use Prim.Native.Nat.{ℕ, suc, ◌-◌, ◌^◌, ◌<◌, ◌≤◌}
use native.Mathlib.Decide.{ℕ_discrete, dec_lt}
use native.Mathlib.Numerals.{sub-one}
use native.Mathlib.Omega.{arith}
use mathlib.Core.Path.{◌≡◌, refl, sym, ap, ◌∙◌}
use mathlib.Core.Logic.{◌⊎◌, inl, inr, ⊎_elim, by_cases}
use mathlib.Core.List.Memᴰ
use mathlib.Core.List.{List, [], ◌∷◌}
use lib.ListN.{get_or, set, length}
use lib.Seq.{get_or-set_same, get_or-set_other, set_out}
use lib.Bits.{bit_or}
use Rattle.rt0.specs.Credential.{Credential, head, ◌∈◌}
use Rattle.rt0.specs.Word.{bit, place, give_word, use_word, use_words, round_words}
use Rattle.rt0.proofs.Bits.{bit_cases, bit_or_lem, bits_same}
use Rattle.rt0.proofs.Lists.{up_to, up_to_holds, length_up_to}
use Rattle.rt0.proofs.Count.{total, total_most, total_le, total_kept}

-- the word b has every bit that the word a has
abbrev pub Keeps : ℕ → ℕ → Type 0
Keeps a b = (d : ℕ) → bit a d ≡ 1 → bit b d ≡ 1

-- word i is the word of a head
abbrev pub OfHead : ℕ → List Credential → ℕ → Type 0
OfHead W cs i = (c : Credential) × (c ∈ cs) × (i ≡ place W (head c))

-- a word after one word is set: as it was, or the one that is set
set_cases : (l : List ℕ) (i j v : ℕ) → (get_or (set l i v) j 0 ≡ get_or l j 0) ⊎ ((j ≡ i) × (get_or (set l i v) j 0 ≡ v))
set_cases l i j v = by_cases (ℕ_discrete j i) here (λ n. inl (get_or-set_other l i j v 0 n))
  where
    here : j ≡ i → (get_or (set l i v) j 0 ≡ get_or l j 0) ⊎ ((j ≡ i) × (get_or (set l i v) j 0 ≡ v))
    here e =
        by_cases (dec_lt i (length l)) (λ h. inr (e, rw e (get_or-set_same l i v 0 h))) (λ h. inl (rw (set_out l i v (omega arith)) refl))

module _ (E W : ℕ) (ws : List ℕ) where
  -- a word after one use of a credential: as it was, or the head's, with what the credential gives
  use_cases : (acc : List ℕ) (c : Credential) (i : ℕ) → (get_or (use_word E W ws acc c) i 0 ≡ get_or acc i 0)
      ⊎ ((i ≡ place W (head c)) × (get_or (use_word E W ws acc c) i 0 ≡ bit_or (get_or acc i 0) (give_word E W ws c)))
  unfolding use_word
  use_cases acc c i = ⊎_elim inl (λ m. inr (m.0, m.1 ∙ ap given (sym m.0))) (set_cases acc (place W (head c)) i _)
    where
      given : ℕ → ℕ
      given j = bit_or (get_or acc j 0) (give_word E W ws c)

  use_keeps : (acc : List ℕ) (c : Credential) (i : ℕ) → Keeps (get_or acc i 0) (get_or (use_word E W ws acc c) i 0)
  use_keeps acc c i d h = ⊎_elim (λ e. rw e h) (λ m. rw m.1 ((bit_or_lem _ _ d).1 (inl h))) (use_cases acc c i)

  uses_keep : (acc : List ℕ) (cs : List Credential) (i : ℕ) → Keeps (get_or acc i 0) (get_or (use_words E W ws acc cs) i 0)
  unfolding use_words
  uses_keep acc [] i d h = h
  uses_keep acc (c ∷ cs) i d h = uses_keep (use_word E W ws acc c) cs i d (use_keeps acc c i d h)

  uses_change : (acc : List ℕ) (cs : List Credential) (i : ℕ) → (get_or (use_words E W ws acc cs) i 0 ≡ get_or acc i 0) ⊎ OfHead W cs i
  unfolding use_words
  uses_change acc [] i = inl refl
  uses_change acc (c ∷ cs) i = ⊎_elim later (λ m. inr (m.0, Memᴰ.tail m.1, m.2)) (uses_change (use_word E W ws acc c) cs i)
    where
      later : get_or (use_words E W ws (use_word E W ws acc c) cs) i 0 ≡ get_or (use_word E W ws acc c) i 0
          → (get_or (use_words E W ws (use_word E W ws acc c) cs) i 0 ≡ get_or acc i 0) ⊎ OfHead W (c ∷ cs) i
      later e = ⊎_elim (λ u. inl (e ∙ u)) (λ m. inr (c, Memᴰ.head refl, m.0)) (use_cases acc c i)

-- a round keeps every bit that is set
pub round_keeps : (E W : ℕ) (cs : List Credential) (ws : List ℕ) (i : ℕ) → Keeps (get_or ws i 0) (get_or (round_words E W cs ws) i 0)
unfolding round_words
round_keeps E W cs ws i = uses_keep E W ws ws cs i

-- a round leaves a word alone, or it is the word of a head
pub round_changes : (E W : ℕ) (cs : List Credential) (ws : List ℕ) (i : ℕ)
    → (get_or (round_words E W cs ws) i 0 ≡ get_or ws i 0) ⊎ OfHead W cs i
unfolding round_words
round_changes E W cs ws i = uses_change E W ws ws cs i

-- 1 for an entity D that is not in the word, 0 for one that is
abbrev lacks : ℕ → ℕ → ℕ
lacks w D = 1 - bit w (D - 1)

-- how many of the entities 1 to E are not in a word
pub missing : ℕ → ℕ → ℕ
missing E w = total (lacks w) (up_to E)

pub missing_most : (E w : ℕ) → missing E w ≤ E
unfolding missing
missing_most E w = omega (arith, length_up_to E, total_most (lacks w) 1 (λ D. omega arith) (up_to E))

lacks_lower : (a b : ℕ) → Keeps a b → (D : ℕ) → lacks b D ≤ lacks a D
lacks_lower a b h D = ⊎_elim (λ e. omega arith) (λ e. omega (arith, h (D - 1) e)) (bit_cases a (D - 1))

pub missing_lower : (E a b : ℕ) → Keeps a b → missing E b ≤ missing E a
unfolding missing
missing_lower E a b h = total_le (lacks b) (lacks a) (lacks_lower a b h) (up_to E)

-- a word that keeps another's bits and lacks no fewer is that word
pub missing_kept : (E a b : ℕ) → a < 2 ^ E → b < 2 ^ E → Keeps a b → missing E b ≡ missing E a → b ≡ a
unfolding missing
missing_kept E a b ha hb h e = bits_same E b a hb ha (λ d l. (kept d l, h d))
  where
    lack : (d : ℕ) → d < E → 1 - bit b d ≡ 1 - bit a d
    lack d l = rw (sub-one (suc d)) at
        (total_kept (lacks b) (lacks a) (lacks_lower a b h) (up_to E) (omega arith) (suc d) (up_to_holds E (suc d) (omega arith) l))

    kept : (d : ℕ) → d < E → bit b d ≡ 1 → bit a d ≡ 1
    kept d l o = ⊎_elim (λ z. omega (arith, lack d l)) (λ z. z) (bit_cases a d)
