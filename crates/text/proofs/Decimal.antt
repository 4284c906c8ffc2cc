-- The decimal digits of a number: they are bytes from 48 to 57, they read back as the number, the first of them is a zero only
-- for 0, and there are few of them. Each is one use of an induction over the digits.
use Prim.Native.Nat.{ℕ, zero, suc, ◌+◌, ◌-◌, ◌*◌, ◌/◌, ◌%◌, ◌^◌, ◌<◌, ◌≤◌}
use native.Mathlib.Omega.{arith}
use mathlib.Core.Path.{◌≡◌, refl}
use mathlib.Core.Bool.{Bool, true, false}
use mathlib.Core.Logic.{◌⊎◌, inl, inr}
use mathlib.Core.List.{List, [], ◌∷◌, ◌++◌}
use mathlib.Core.List.Memᴰ
use lib.ListN.{length, get_or, length-append, get_or-append}
use lib.Dec.{ltb}
use borrow.Author.Tests.{lt-ltb, le-ltb, ltb-true, ltb-false}
use Rattle.rt0.specs.Credential.{◌∈◌}
use Rattle.text.specs.Decimal.{digits_within, decimal, read_after, value_of}

-- any bound that is large enough gives the same digits
same_digits : (j k n : ℕ) → n ≤ j → n ≤ k → digits_within j n ≡ digits_within k n
unfolding digits_within
same_digits zero zero n p q = refl
same_digits zero (suc k) n p q = rw (lt-ltb n 10 (omega arith))
same_digits (suc j) zero n p q = rw (lt-ltb n 10 (omega arith))
same_digits (suc j) (suc k) n p q = rw (same_digits j k (n / 10) (omega arith) (omega arith))

-- a number of one digit
pub decimal_one : (n : ℕ) → n < 10 → decimal n ≡ (48 + n) ∷ []
unfolding decimal digits_within
decimal_one zero p = refl
decimal_one (suc n) p = rw (lt-ltb (suc n) 10 p)

-- a number of more digits: those of its tenth, and then the last one
pub decimal_more : (n : ℕ) → 10 ≤ n → decimal n ≡ decimal (n / 10) ++ (48 + n % 10) ∷ []
unfolding decimal digits_within
decimal_more zero p = absurd (omega arith)
decimal_more (suc n) p = rw (le-ltb (suc n) 10 p, same_digits n (suc n / 10) (suc n / 10) (omega arith) (omega arith))

-- a number is below another one or not
less_or_not : (m n : ℕ) → (n < m) ⊎ (m ≤ n)
less_or_not m n = from (ltb n m) refl
  where
    from : (b : Bool) → ltb n m ≡ b → (n < m) ⊎ (m ≤ n)
    from true e = inl (ltb-true n m e)
    from false e = inr (ltb-false n m e)

-- what holds of one digit, and of the digits of n where it holds of those of n / 10, holds of the digits of every number
by_digits : (P : ℕ → List ℕ → Type 0)
    → ((n : ℕ) → n < 10 → P n ((48 + n) ∷ []))
    → ((n : ℕ) (ds : List ℕ) → 10 ≤ n → P (n / 10) ds → P n (ds ++ (48 + n % 10) ∷ []))
    → (n : ℕ) → P n (decimal n)
by_digits P one more n = within (suc n) n (omega arith)
  where
    within : (k n : ℕ) → n < k → P n (decimal n)
    within zero n p = absurd (omega arith)
    within (suc k) n p = from (λ h. within k (n / 10) h) (less_or_not 10 n)
      where
        from : (n / 10 < k → P (n / 10) (decimal (n / 10))) → (n < 10) ⊎ (10 ≤ n) → P n (decimal n)
        from before (inl h) = rw (decimal_one n h) (one n h)
        from before (inr h) = rw (decimal_more n h) (more n (decimal (n / 10)) h (before (omega arith)))

-- every byte is a digit
pub only_digits : (n : ℕ) (d : ℕ) → d ∈ decimal n → (48 ≤ d) × (d ≤ 57)
only_digits = by_digits (λ n ds. (d : ℕ) → d ∈ ds → (48 ≤ d) × (d ≤ 57)) one more
  where
    one : (n : ℕ) → n < 10 → (d : ℕ) → d ∈ (48 + n) ∷ [] → (48 ≤ d) × (d ≤ 57)
    one n p d i = omega (arith, Memᴰ.eq_of_singleton i)

    more : (n : ℕ) (ds : List ℕ) → 10 ≤ n → ((d : ℕ) → d ∈ ds → (48 ≤ d) × (d ≤ 57))
        → (d : ℕ) → d ∈ ds ++ (48 + n % 10) ∷ [] → (48 ≤ d) × (d ≤ 57)
    more n ds p before d i = from (Memᴰ.append_cases ds i)
      where
        from : (d ∈ ds) ⊎ (d ∈ (48 + n % 10) ∷ []) → (48 ≤ d) × (d ≤ 57)
        from (inl j) = before d j
        from (inr j) = omega (arith, Memᴰ.eq_of_singleton j)

-- the last digit counts once, those before it ten times
read_last : (m : ℕ) (ds : List ℕ) (d : ℕ) → read_after m (ds ++ d ∷ []) ≡ 10 * read_after m ds + (d - 48)
unfolding read_after
read_last m [] d = refl
read_last m (x ∷ ds) d = read_last (10 * m + (x - 48)) ds d

-- the digits of n read back as n
pub reads_back : (n : ℕ) → value_of (decimal n) ≡ n
unfolding read_after
reads_back = by_digits (λ n ds. value_of ds ≡ n) (λ n p. omega arith) (λ n ds p before. omega (arith, read_last 0 ds (48 + n % 10)))

-- the first digit is a zero only for the number 0
pub no_leading_zero : (n : ℕ) → get_or (decimal n) 0 0 ≡ 48 → n ≡ 0
no_leading_zero n = (by_digits (λ n ds. (0 < length ds) × (get_or ds 0 0 ≡ 48 → n ≡ 0)) one more n).1
  where
    one : (n : ℕ) → n < 10 → (0 < 1) × (48 + n ≡ 48 → n ≡ 0)
    one n p = (omega arith, λ e. omega arith)

    more : (n : ℕ) (ds : List ℕ) → 10 ≤ n → (0 < length ds) × (get_or ds 0 0 ≡ 48 → n / 10 ≡ 0)
        → (0 < length (ds ++ (48 + n % 10) ∷ [])) × (get_or (ds ++ (48 + n % 10) ∷ []) 0 0 ≡ 48 → n ≡ 0)
    more n ds p before =
        (simp length-append (omega arith), λ e. omega (arith, before.1 (rw (get_or-append ds ((48 + n % 10) ∷ []) 0 0 before.0) at e)))

-- there is at least one digit
pub some_digits : (n : ℕ) → 1 ≤ length (decimal n)
some_digits = by_digits (λ n ds. 1 ≤ length ds) (λ n p. omega arith) (λ n ds p before. simp length-append (omega arith))

-- a number of more digits has one more than its tenth
pub digits_more : (n : ℕ) → 10 ≤ n → length (decimal n) ≡ length (decimal (n / 10)) + 1
digits_more n p = rw (decimal_more n p, length-append)

-- a number below 10 ^ (k + 1) has at most k + 1 digits
pub few_digits : (n k : ℕ) → n < 10 ^ suc k → length (decimal n) ≤ suc k
few_digits = by_digits (λ n ds. (k : ℕ) → n < 10 ^ suc k → length ds ≤ suc k) (λ n p k h. omega arith) more
  where
    more : (n : ℕ) (ds : List ℕ) → 10 ≤ n → ((k : ℕ) → n / 10 < 10 ^ suc k → length ds ≤ suc k)
        → (k : ℕ) → n < 10 ^ suc k → length (ds ++ (48 + n % 10) ∷ []) ≤ suc k
    more n ds p before zero h = absurd (omega arith)
    more n ds p before (suc k) h = simp length-append (omega (arith, before k (omega arith)))

-- a number of 16 bits has at most five digits
pub five_digits : (n : ℕ) → n < 2 ^ 16 → length (decimal n) ≤ 5
five_digits n h = few_digits n 4 (omega arith)
