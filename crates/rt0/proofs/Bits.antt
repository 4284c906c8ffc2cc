-- The bits of a word: of an or, an and, a power of two and a run of ones; and words with the same bits are equal. One, shifted, is a power.
-- The laws by induction go down one bit at a time: bit d + 1 of a word is bit d of its half.
use Prim.Native.Nat.{ℕ, zero, suc, ◌-◌, ◌*◌, ◌/◌, ◌%◌, ◌^◌, ◌<◌, ◌≤◌, suc-le-suc, min, max}
use native.Mathlib.Nat.{pow-suc, div-one, div-div-eq-div-mul, div-eq_of_lt, mod-lt, zero-div, mul_comm, one-mul, zero-lt-suc, lt_of_lt_of_le}
use native.Mathlib.Omega.{arith}
use mathlib.Core.Path.{◌≡◌, refl, ap, ◌∙◌}
use mathlib.Core.Logic.{◌↔◌, ◌⊎◌, inl, inr}
use lib.Bits.{bit_and, bit_or, or_step, and_step, or_shr, and_shr}
use lib.Pow.{pow_pos, pow_mono, shl_exact}
use Rattle.rt0.specs.Word.{bit}

-- the lowest bit, and the others
bit_lowest : (w : ℕ) → bit w 0 ≡ w % 2
bit_lowest w = rw div-one

bit_half : (w d : ℕ) → bit w (suc d) ≡ bit (w / 2) d
bit_half w d = rw (pow-suc, mul_comm, div-div-eq-div-mul)

zero_or_one : (b : ℕ) → b < 2 → (b ≡ 0) ⊎ (b ≡ 1)
zero_or_one zero h = inl refl
zero_or_one (suc zero) h = inr refl
zero_or_one (suc (suc b)) h = absurd (omega arith)

bit_small : (w d : ℕ) → bit w d < 2
bit_small w d = mod-lt (w / 2 ^ d) (zero-lt-suc 1)

pub bit_cases : (w d : ℕ) → (bit w d ≡ 0) ⊎ (bit w d ≡ 1)
bit_cases w d = zero_or_one (bit w d) (bit_small w d)

pub bit_zero : (d : ℕ) → bit 0 d ≡ 0
bit_zero d = rw zero-div

-- a bit of an or is the greater of the two bits, of an and the lesser
or_lowest : (a b : ℕ) → bit_or a b % 2 ≡ max (a % 2) (b % 2)
or_lowest a b = omega (arith, or_step a b)

and_lowest : (a b : ℕ) → bit_and a b % 2 ≡ min (a % 2) (b % 2)
and_lowest a b = omega (arith, and_step a b)

bit_or_max : (a b d : ℕ) → bit (bit_or a b) d ≡ max (bit a d) (bit b d)
bit_or_max a b d = rw or_shr (or_lowest (a / 2 ^ d) (b / 2 ^ d))

bit_and_min : (a b d : ℕ) → bit (bit_and a b) d ≡ min (bit a d) (bit b d)
bit_and_min a b d = rw and_shr (and_lowest (a / 2 ^ d) (b / 2 ^ d))

max_one : (x y : ℕ) → x < 2 → y < 2 → (max x y ≡ 1) ↔ ((x ≡ 1) ⊎ (y ≡ 1))
max_one x y hx hy = (split (zero_or_one x hx), join)
  where
    split : (x ≡ 0) ⊎ (x ≡ 1) → max x y ≡ 1 → (x ≡ 1) ⊎ (y ≡ 1)
    split (inl p) e = inr (omega arith)
    split (inr p) e = inl p

    join : (x ≡ 1) ⊎ (y ≡ 1) → max x y ≡ 1
    join (inl p) = omega arith
    join (inr p) = omega arith

pub bit_or_lem : (a b d : ℕ) → (bit (bit_or a b) d ≡ 1) ↔ ((bit a d ≡ 1) ⊎ (bit b d ≡ 1))
bit_or_lem a b d = rw bit_or_max (max_one (bit a d) (bit b d) (bit_small a d) (bit_small b d))

min_one : (x y : ℕ) → x < 2 → y < 2 → (min x y ≡ 1) ↔ ((x ≡ 1) × (y ≡ 1))
min_one x y hx hy = (λ e. omega arith, λ e. omega arith)

pub bit_and_lem : (a b d : ℕ) → (bit (bit_and a b) d ≡ 1) ↔ ((bit a d ≡ 1) × (bit b d ≡ 1))
bit_and_lem a b d = rw bit_and_min (min_one (bit a d) (bit b d) (bit_small a d) (bit_small b d))

power_half : (k : ℕ) → 2 ^ suc k / 2 ≡ 2 ^ k
power_half k = omega (arith, pow-suc 2 k)

pub bit_power : (k d : ℕ) → (bit (2 ^ k) d ≡ 1) ↔ (k ≡ d)
bit_power zero zero = (λ e. refl, λ e. refl)
bit_power zero (suc d) = (λ e. omega (arith, rw bit_half at e, bit_zero d), λ e. omega arith)
bit_power (suc k) zero = (λ e. omega (arith, pow-suc 2 k, rw bit_lowest at e), λ e. omega arith)
bit_power (suc k) (suc d) = (
  λ e. ap suc ((bit_power k d).0 (rw (bit_half, power_half) at e)),
  λ e. rw (bit_half, power_half) ((bit_power k d).1 (omega arith)),
)

ones_half : (k : ℕ) → (2 ^ suc k - 1) / 2 ≡ 2 ^ k - 1
ones_half k = omega (arith, pow-suc 2 k, pow_pos k)

ones_lowest : (k : ℕ) → (2 ^ suc k - 1) % 2 ≡ 1
ones_lowest k = omega (arith, pow-suc 2 k, pow_pos k)

pub bit_ones : (k d : ℕ) → (bit (2 ^ k - 1) d ≡ 1) ↔ (d < k)
bit_ones zero d = (λ e. omega (arith, bit_zero d), λ h. omega arith)
bit_ones (suc k) zero = (λ e. omega arith, λ h. rw bit_lowest (ones_lowest k))
bit_ones (suc k) (suc d) = (
  λ e. suc-le-suc ((bit_ones k d).0 (rw (bit_half, ones_half) at e)),
  λ h. rw (bit_half, ones_half) ((bit_ones k d).1 (omega arith)),
)

pub bit_high : (k w d : ℕ) → w < 2 ^ k → k ≤ d → bit w d ≡ 0
bit_high k w d h l = rw (div-eq_of_lt (lt_of_lt_of_le h (pow_mono l)))

same_bit : (x y : ℕ) → x < 2 → y < 2 → (x ≡ 1) ↔ (y ≡ 1) → x ≡ y
same_bit x y hx hy h = compare_bits (zero_or_one x hx) (zero_or_one y hy)
  where
    compare_bits : (x ≡ 0) ⊎ (x ≡ 1) → (y ≡ 0) ⊎ (y ≡ 1) → x ≡ y
    compare_bits (inl p) (inl q) = omega arith
    compare_bits (inl p) (inr q) = omega (arith, h.1 q)
    compare_bits (inr p) q = omega (arith, h.0 p)

pub bits_same : (k a b : ℕ) → a < 2 ^ k → b < 2 ^ k → ((d : ℕ) → d < k → (bit a d ≡ 1) ↔ (bit b d ≡ 1)) → a ≡ b
bits_same zero a b ha hb h = omega arith
bits_same (suc k) a b ha hb h =
    let lowest : a % 2 ≡ b % 2 = same_bit (a % 2) (b % 2) (omega arith) (omega arith) (simp bit_lowest at (h 0 (omega arith))) in
    let higher : a / 2 ≡ b / 2 = bits_same k (a / 2) (b / 2) (omega (arith, pow-suc 2 k)) (omega (arith, pow-suc 2 k)) bits in
    omega arith
  where
    bits : (d : ℕ) → d < k → (bit (a / 2) d ≡ 1) ↔ (bit (b / 2) d ≡ 1)
    bits d l = rw (← bit_half a d, ← bit_half b d) (h (suc d) (suc-le-suc l))

-- one, shifted within a word of so many bits
pub shifted_one : (bits k : ℕ) → k < bits → 1 * 2 ^ k % 2 ^ bits ≡ 2 ^ k
shifted_one bits k l = shl_exact 1 k bits (omega arith) (omega arith) ∙ one-mul (2 ^ k)
