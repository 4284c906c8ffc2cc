-- The value that says which roles are open. With nothing open the rounds start from nobody. The value that the code computes from a
-- bundle's marks and the names given agrees with the paper's test on every role within E and R: so both start the same table.
use Prim.Native.Nat.{ℕ, zero, suc, ◌+◌, ◌*◌, ◌-◌, ◌/◌, ◌%◌, ◌^◌, ◌<◌}
use native.Mathlib.Numerals.{add-one}
use native.Mathlib.Omega.{arith}
use mathlib.Core.Path.{◌≡◌, refl, sym, ◌∙◌, fun_ext}
use mathlib.Core.Bool.{Bool, true, false, cond, ◌&&◌, ◌||◌, true≢false}
use mathlib.Core.Logic.{◌↔◌, ⊎_elim}
use mathlib.Core.List.{List, []}
use lib.Dec.{eqb, leb}
use lib.Bits.{bit_or, or_zero_r}
use borrow.Author.Tests.{leb-true, eq-eqb, ne_eqb}
use Rattle.rt0.specs.Credential.{Role, ◌·◌, IsEntity, IsName}
use Rattle.rt0.specs.Completion.{Shelf, is_absent, Open, some_absent, open_with}
use Rattle.rt0.specs.Word.{bit, bits_below, none_words, open_within, open_words}
use Rattle.rt0.proofs.Bits.{bit_zero}
use Rattle.rt0.proofs.BitsBelow.{bits_told, bits_one, bits_other}
use Rattle.base.proofs.Flags.{or_false, or_true, and_right}
use Rattle.bundle.specs.Held.{shelves, open_of}
use Rattle.tables.specs.Open.{names_in, open_names, open_in, nothing_open, absent_word, opened_roles}
use Rattle.tables.proofs.Starts.{none_grows}

-- ---- nothing

and_false : (x y : Bool) → (x && y && false) ≡ false
and_false true true = refl
and_false true false = refl
and_false false true = refl
and_false false false = refl

closed : (E R A r : ℕ) → open_within E R (open_in nothing_open) (A · r) ≡ false
closed E R A r = rw (bit_zero (A - 1), bit_zero (r - 1)) (and_false (leb A E) (leb r R))

no_words : [] ≡ none_words 0
unfolding none_words
no_words = refl

pub nothing_open_lem : (E R W n : ℕ) → open_words E R W (open_in nothing_open) n ≡ none_words n
unfolding open_words
nothing_open_lem E R W zero = no_words
nothing_open_lem E R W (suc n) = rw (nothing_open_lem E R W n, closed E R (suc (n / W)) (suc (n % W)), none_grows n)

-- ---- tests that agree

both : (x y : Bool) {b c : Bool} → (x ≡ true → y ≡ true → b ≡ c) → (x && y && b) ≡ (x && y && c)
both true true h = h refl refl
both true false h = refl
both false true h = refl
both false false h = refl

module _ (E R W : ℕ) (o p : Open) (agree : (A r : ℕ) → IsEntity E A → IsName R r → o (A · r) ≡ p (A · r)) where
  within_same : (A r : ℕ) → open_within E R o (suc A · suc r) ≡ open_within E R p (suc A · suc r)
  within_same A r = both (leb (suc A) E) (leb (suc r) R)
      (λ a n. agree (suc A) (suc r) (omega (arith, leb-true (suc A) E a)) (omega (arith, leb-true (suc r) R n)))

  open_same : (n : ℕ) → open_words E R W o n ≡ open_words E R W p n
  unfolding open_words
  open_same zero = refl
  open_same (suc n) = rw (open_same n, within_same (n / W) (n % W))

-- ---- the absent entities, and the names that any of them opens

and_true : (x : Bool) → (x && true) ≡ x
and_true true = refl
and_true false = refl

or_none : (x : Bool) → (x || false) ≡ x
or_none true = refl
or_none false = refl

-- the word of the absent entities is 0 exactly where none is absent
module _ (shelf : ℕ → Shelf) where
  abbrev gone : ℕ → Bool
  gone d = is_absent (shelf (suc d))

  bits_nowhere : (n : ℕ) → some_absent shelf n ≡ false → bits_below gone n ≡ 0
  unfolding some_absent bits_below
  bits_nowhere zero e = refl
  bits_nowhere (suc n) e =
      let (last, others) = or_false (gone n) (some_absent shelf n) e in
      rw (last, or_zero_r, bits_nowhere n others)

  somewhere : (n : ℕ) → some_absent shelf n ≡ true → (d : ℕ) × (d < n) × (gone d ≡ true)
  unfolding some_absent
  somewhere zero e = absurd (true≢false (sym e))
  somewhere (suc n) e =
      ⊎_elim (λ last. (n, omega arith, last)) (λ h. let (d, l, absent) = somewhere n h in (d, omega arith, absent))
      (or_true (gone n) (some_absent shelf n) e)

  bits_some : (n : ℕ) → some_absent shelf n ≡ true → eqb (bits_below gone n) 0 ≡ false
  bits_some n e =
      let (d, l, absent) = somewhere n e in
      let one = (bits_told gone n d).1 (l, absent) in
      ne_eqb (bits_below gone n) 0 (λ none. absurd (omega (arith, bit_zero d, rw none at one)))

-- a bit that tells what a flag says
pub flag : (w d : ℕ) (b : Bool) → (bit w d ≡ 1) ↔ (b ≡ true) → eqb (bit w d) 1 ≡ b
flag w d true h = rw (eq-eqb (bit w d) 1 (h.1 refl))
flag w d false h = rw (ne_eqb (bit w d) 1 (λ e. true≢false (sym (h.0 e))))

module _ (bytes : List ℕ) where
  absent_open : (E A : ℕ) → IsEntity E A → eqb (bit (absent_word bytes E) (A - 1)) 1 ≡ is_absent (shelves bytes A)
  unfolding absent_word
  absent_open E A i =
      let same : suc (A - 1) ≡ A = omega arith in
      let told = bits_told (λ d. is_absent (shelves bytes (suc d))) E (A - 1) in
      flag (absent_word bytes E) (A - 1) (is_absent (shelves bytes A)) (λ h. rw same at (told.0 h).1, λ e. told.1 (omega arith, rw same e))

  -- the names given are open if any entity is absent: only then is the word of the absent ones not 0
  names_open : (E names r : ℕ) (b : Bool) → b ≡ some_absent (shelves bytes) E
      → eqb (bit (cond (eqb (absent_word bytes E) 0) 0 names) r) 1 ≡ (eqb (bit names r) 1 && b)
  unfolding absent_word
  names_open E names r true e = rw (bits_some (shelves bytes) E (sym e)) (sym (and_true (eqb (bit names r) 1)))
  names_open E names r false e = rw (bits_nowhere (shelves bytes) E (sym e), bit_zero r) (sym (and_right (eqb (bit names r) 1) false refl))

  opened_agree : (E names A r : ℕ) → IsEntity E A
      → open_in (opened_roles bytes E names) (A · r) ≡ open_with (names_in names) (shelves bytes) E (A · r)
  opened_agree E names A r i = rw (absent_open E A i, names_open E names (r - 1) (some_absent (shelves bytes) E) refl)

  -- the table that the rounds start from, by the paper's test
  pub opened_start : (E R W names n : ℕ)
      → open_words E R W (open_in (opened_roles bytes E names)) n ≡ open_words E R W (open_with (names_in names) (shelves bytes) E) n
  opened_start E R W names n =
      open_same E R W (open_in (opened_roles bytes E names)) (open_with (names_in names) (shelves bytes) E) (λ A r a _. opened_agree E names A r a) n

  -- with no names, that of an absent shelf
  no_names : (ρ : Role) → open_names 0 bytes ρ ≡ open_of bytes ρ
  no_names (A · r) = rw (bit_zero (r - 1)) (or_none (is_absent (shelves bytes A)))

  pub open_alone : open_names 0 bytes ≡ open_of bytes
  open_alone = fun_ext no_names

-- ---- as the code works the word out

-- one entity more of those that may be absent
module _ (bytes : List ℕ) (n word : ℕ) (e : word ≡ absent_word bytes n) (absent : Bool) (q : absent ≡ is_absent (shelves bytes (n + 1))) where
  pub absent_more : n < 32 → absent ≡ true → bit_or word (1 * 2 ^ n % 2 ^ 32) ≡ absent_word bytes (n + 1)
  unfolding absent_word
  absent_more l t = bits_one _ n word e 32 l (rw add-one at (sym q ∙ t))

  pub absent_other : absent ≡ false → word ≡ absent_word bytes (n + 1)
  unfolding absent_word
  absent_other t = bits_other _ n word e (rw add-one at (sym q ∙ t))

-- the value of the word, where it is 0 and where it is not
module _ (bytes : List ℕ) (E names word : ℕ) (e : word ≡ absent_word bytes E) where
  pub opened_none : word ≡ 0 → record { entities = word; names = 0 } ≡ opened_roles bytes E names
  opened_none z = rw (← e, eq-eqb word 0 z)

  pub opened_some : (word ≡ 0 → ⊥) → record { entities = word; names = names } ≡ opened_roles bytes E names
  opened_some z = rw (← e, ne_eqb word 0 z)
