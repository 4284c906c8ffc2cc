-- The laws of `lowest`: what it is, and how a loop that goes upwards finds it.
use Prim.Native.Nat.{ℕ, zero, suc, ◌+◌, ◌<◌, ◌≤◌}
use mathlib.Core.Path.{◌≡◌, refl, sym, subst}
use mathlib.Core.Bool.{Bool, true, false, cond}
use native.Mathlib.Decide.{dec_lt}
use native.Mathlib.Numerals.{add-one}
use native.Mathlib.Omega.{arith}
use lib.Dec.{ltb}
use borrow.Author.Count.{below_none, below_more}
use borrow.Author.Tests.{lt-ltb, le-ltb, ltb-true, ltb-false}
use Rattle.base.specs.Lowest.{lowest, any_below}

-- the test fails at every number below i: what a loop that goes upwards has shown where it stands at i
abbrev pub Missed : (ℕ → Bool) → ℕ → Type 0
Missed test i = (j : ℕ) → j < i → test j ≡ false

pub missed_none : (test : ℕ → Bool) → Missed test 0
missed_none test = below_none (λ j. test j ≡ false)

pub missed_more : (test : ℕ → Bool) (i : ℕ) → Missed test i → test i ≡ false → Missed test (i + 1)
missed_more test i h e = below_more (λ j. test j ≡ false) i h e

-- what makes i the lowest number below n at which the test holds, or n where there is none
pub record IsLowest (test : ℕ → Bool) (n i : ℕ) : Type 0 where
  pub most : i ≤ n
  pub missed : Missed test i
  pub hit : i < n → test i ≡ true

-- one number more: found before, found now, not found
step : (test : ℕ → Bool) (n k : ℕ) (before now : Bool) → ltb k n ≡ before → test n ≡ now → IsLowest test n k
    → IsLowest test (suc n) (cond before k (cond now n (suc n)))
step test n k true now b e h =
    let l : k < n = ltb-true k n b in
    record { most = omega arith; missed = h.missed; hit = λ _. h.hit l }
step test n k false true b e h =
    let same : k ≡ n = omega (arith, ltb-false k n b, h.most) in
    record { most = omega arith; missed = subst (Missed test) same h.missed; hit = λ _. e }
step test n k false false b e h =
    let same : k ≡ n = omega (arith, ltb-false k n b, h.most) in
    record {
      most = omega arith;
      missed = subst (Missed test) (add-one n) (missed_more test n (subst (Missed test) same h.missed) e);
      hit = λ l. absurd (omega arith);
    }

pub lowest_is : (test : ℕ → Bool) (n : ℕ) → IsLowest test n (lowest test n)
unfolding lowest
lowest_is test zero = record { most = omega arith; missed = missed_none test; hit = λ l. absurd (omega arith) }
lowest_is test (suc n) = step test n (lowest test n) (ltb (lowest test n) n) (test n) refl refl (lowest_is test n)

pub clash : (b : Bool) → b ≡ true → b ≡ false → ⊥
clash b p q = let z : ◌≡◌ {A = ℕ} 0 1 = cc in omega arith

-- no other such number is lower
not_lower : (test : ℕ → Bool) (n i j : ℕ) → IsLowest test n i → IsLowest test n j → i < j → ⊥
not_lower test n i j h k l = clash (test i) (h.hit (omega (arith, k.most))) (k.missed i l)

-- there is only one
pub lowest_unique : (test : ℕ → Bool) (n i j : ℕ) → IsLowest test n i → IsLowest test n j → i ≡ j
lowest_unique test n i j h k = equal (dec_lt i j) (dec_lt j i)
  where
    equal : Dec (i < j) → Dec (j < i) → i ≡ j
    equal (yes l) _ = absurd (not_lower test n i j h k l)
    equal (no a) (yes l) = absurd (not_lower test n j i k h l)
    equal (no a) (no b) = omega arith

-- where a loop ends: the test holds at i, or there is nothing left
pub lowest_hit : (test : ℕ → Bool) (n i : ℕ) → i < n → Missed test i → test i ≡ true → i ≡ lowest test n
lowest_hit test n i l h e =
    lowest_unique test n i (lowest test n) (record { most = omega arith; missed = h; hit = λ _. e }) (lowest_is test n)

pub lowest_none : (test : ℕ → Bool) (n i : ℕ) → i ≤ n → n ≤ i → Missed test i → i ≡ lowest test n
lowest_none test n i l m h =
    lowest_unique test n i (lowest test n) (record { most = l; missed = h; hit = λ k. absurd (omega arith) }) (lowest_is test n)

-- the same for a loop that only tells whether there is one
pub any_hit : (test : ℕ → Bool) (n i : ℕ) → i < n → Missed test i → test i ≡ true → true ≡ any_below test n
any_hit test n i l h e = sym (lt-ltb (lowest test n) n (subst (λ (k : ℕ). k < n) (lowest_hit test n i l h e) l))

pub any_none : (test : ℕ → Bool) (n i : ℕ) → i ≤ n → n ≤ i → Missed test i → false ≡ any_below test n
any_none test n i l m h = sym (le-ltb (lowest test n) n (subst (λ (k : ℕ). n ≤ k) (lowest_none test n i l m h) m))

-- what the tests say afterwards
pub any_false : (test : ℕ → Bool) (n : ℕ) → any_below test n ≡ false → Missed test n
any_false test n e j l = (lowest_is test n).missed j (omega (arith, ltb-false (lowest test n) n e))

pub any_true : (test : ℕ → Bool) (n : ℕ) → any_below test n ≡ true → (lowest test n < n) × (test (lowest test n) ≡ true)
any_true test n e = let l : lowest test n < n = ltb-true (lowest test n) n e in (l, (lowest_is test n).hit l)

-- a test that holds anywhere below n
pub any_somewhere : (test : ℕ → Bool) (n j : ℕ) → j < n → test j ≡ true → any_below test n ≡ true
any_somewhere test n j l e = by (any_below test n) refl
  where
    by : (b : Bool) → any_below test n ≡ b → b ≡ true
    by true h = refl
    by false h = absurd (clash (test j) e (any_false test n h j l))

-- The lowest k at which some test of a row of tests holds, by one pass over the row: at each place the lowest k that holds there, and the
-- least of these.

-- least is the lowest k below m at which a test at a place below i holds, or m
pub record Least (test : ℕ → ℕ → Bool) (m i least : ℕ) : Type 0 where
  pub most : least ≤ m
  pub missed : (k : ℕ) → k < least → Missed (test k) i
  pub hit : least < m → (j : ℕ) × (j < i) × (test least j ≡ true)

module _ (test : ℕ → ℕ → Bool) (m : ℕ) where
  pub least_none : Least test m 0 m
  least_none = record { most = omega arith; missed = λ k l. missed_none (test k); hit = λ l. absurd (omega arith) }

  -- one place more, where a lower one is found or not
  pub least_lower : (i least found : ℕ) → Least test m i least → found ≡ lowest (λ k. test k i) m → found < least
      → Least test m (i + 1) found
  least_lower i least found h e l =
      let is : IsLowest (λ k. test k i) m found = rw e (lowest_is (λ k. test k i) m) in
      record {
        most = is.most;
        missed = λ k b. missed_more (test k) i (h.missed k (omega arith)) (is.missed k b);
        hit = λ b. (i, omega arith, is.hit b);
      }

  pub least_same : (i least found : ℕ) → Least test m i least → found ≡ lowest (λ k. test k i) m → least ≤ found
      → Least test m (i + 1) least
  least_same i least found h e l =
      let is : IsLowest (λ k. test k i) m found = rw e (lowest_is (λ k. test k i) m) in
      record {
        most = h.most;
        missed = λ k b. missed_more (test k) i (h.missed k b) (is.missed k (omega arith));
        hit = λ b. let (j, below, true_there) = h.hit b in (j, omega arith, true_there);
      }

  pub least_done : (n i least : ℕ) → i ≤ n → n ≤ i → Least test m i least → least ≡ lowest (λ k. any_below (test k) n) m
  least_done n i least a b h =
      let e : i ≡ n = omega arith in
      lowest_unique (λ k. any_below (test k) n) m least _
      (record {
        most = h.most;
        missed = λ k l. sym (any_none (test k) n i a b (h.missed k l));
        hit = λ l. let (j, below, true_there) = h.hit l in any_somewhere (test least) n j (omega arith) true_there;
      })
      (lowest_is (λ k. any_below (test k) n) m)
