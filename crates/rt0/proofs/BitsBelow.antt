-- The word of the numbers below n at which a test holds: its bits say so, it has n bits, and one number more is one bit more.
use Prim.Native.Nat.{ℕ, zero, suc, ◌+◌, ◌*◌, ◌%◌, ◌^◌, ◌<◌}
use native.Mathlib.Decide.{ℕ_discrete}
use native.Mathlib.Numerals.{add-one}
use native.Mathlib.Omega.{arith}
use mathlib.Core.Path.{◌≡◌, refl, sym}
use mathlib.Core.Bool.{Bool, true, false, true≢false}
use mathlib.Core.Logic.{◌↔◌, inl, inr, ⊎_elim, by_cases}
use lib.Bits.{bit_or, or_zero_r, or_lt}
use lib.Pow.{pow_pos, pow_mono, pow-lt}
use native.Mathlib.Nat.{lt_of_lt_of_le}
use Rattle.rt0.specs.Word.{bit, pick_word, bits_below}
use Rattle.rt0.proofs.Bits.{bit_zero, bit_or_lem, bit_power, shifted_one}

picked : (b : Bool) (n k : ℕ) → (bit (pick_word b (2 ^ n) 0) k ≡ 1) ↔ ((n ≡ k) × (b ≡ true))
picked true n k = (λ h. ((bit_power n k).0 h, refl), λ h. (bit_power n k).1 h.0)
picked false n k = (λ h. absurd (omega (arith, bit_zero k)), λ h. absurd (true≢false (sym h.1)))

picked_small : (b : Bool) (n : ℕ) → pick_word b (2 ^ n) 0 < 2 ^ suc n
picked_small true n = pow-lt (omega arith)
picked_small false n = pow_pos (suc n)

module _ (holds : ℕ → Bool) where
  -- bit k is 1 exactly if k is below n and the test holds there
  pub bits_told : (n k : ℕ) → (bit (bits_below holds n) k ≡ 1) ↔ ((k < n) × (holds k ≡ true))
  unfolding bits_below
  bits_told zero k = (λ h. absurd (omega (arith, bit_zero k)), λ h. absurd (omega arith))
  bits_told (suc n) k = (
    λ h. ⊎_elim
        (λ o. let (l, e) = (bits_told n k).0 o in (omega arith, e))
        (λ o. let (same, e) = (picked (holds n) n k).0 o in (omega arith, rw (← same) e))
        ((bit_or_lem (bits_below holds n) (pick_word (holds n) (2 ^ n) 0) k).0 h),
    λ h. (bit_or_lem (bits_below holds n) (pick_word (holds n) (2 ^ n) 0) k).1 (by_cases (ℕ_discrete k n)
        (λ same. inr ((picked (holds n) n k).1 (sym same, rw (← same) h.1)))
        (λ other. inl ((bits_told n k).1 (omega arith, h.1)))),
  )

  -- it has n bits
  pub bits_small : (n : ℕ) → bits_below holds n < 2 ^ n
  unfolding bits_below
  bits_small zero = omega arith
  bits_small (suc n) =
      or_lt (suc n) (bits_below holds n) (pick_word (holds n) (2 ^ n) 0) (lt_of_lt_of_le (bits_small n) (pow_mono (omega arith))) (picked_small (holds n) n)

  -- as code works it out: no number, and one number more, at which the test holds or not
  pub bits_none : 0 ≡ bits_below holds 0
  unfolding bits_below
  bits_none = refl

  module _ (k word : ℕ) (e : word ≡ bits_below holds k) where
    pub bits_one : (bits : ℕ) → k < bits → holds k ≡ true → bit_or word (1 * 2 ^ k % 2 ^ bits) ≡ bits_below holds (k + 1)
    unfolding bits_below
    bits_one bits l h = rw (shifted_one bits k l, add-one, h, e)

    pub bits_other : holds k ≡ false → word ≡ bits_below holds (k + 1)
    unfolding bits_below
    bits_other h = rw (add-one, h, or_zero_r, e)
