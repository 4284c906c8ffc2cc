-- The place that says by its bits where a test holds: there is one exactly where the test holds somewhere, it is unique and has as many bits
-- as there are numbers, and the word of these numbers is it.
use Prim.Native.Nat.{ℕ, zero, suc, ◌+◌, ◌^◌, ◌<◌}
use native.Mathlib.Decide.{dec_lt}
use native.Mathlib.Nat.{two-pow-succ}
use native.Mathlib.Omega.{arith}
use mathlib.Core.Path.{◌≡◌, sym, ◌∙◌}
use mathlib.Core.Bool.{Bool, true, true≢false}
use mathlib.Core.Logic.{◌↔◌, by_cases}
use lib.Pow.{pow_pos}
use Rattle.rt0.specs.Word.{bit, bits_below}
use Rattle.rt0.proofs.Bits.{bit_zero, bit_high, bits_same}
use Rattle.rt0.proofs.BitsBelow.{bits_told, bits_small}
use Rattle.base.specs.Lowest.{lowest}
use Rattle.base.specs.Refusals.{OnePlace, Finds}
use Rattle.base.proofs.Flags.{not_true_false}
use Rattle.base.proofs.Lowest.{Missed, lowest_is}
use Rattle.base.proofs.Refusals.{finds_below}
use Rattle.bundle.specs.Each.{EachBelow, each_place}

-- every number has as many bits as itself
below_power : (n : ℕ) → n < 2 ^ n
below_power zero = omega arith
below_power (suc n) = rw (two-pow-succ n) (omega (arith, below_power n))

module _ (holds : ℕ → Bool) (n : ℕ) where
  pub each_place_lem : OnePlace (EachBelow holds n)
  each_place_lem p q a b = bits_same (p + q) p q (omega (arith, below_power (p + q))) (omega (arith, below_power (p + q))) (λ d _. same d)
    where
      same : (d : ℕ) → (bit p d ≡ 1) ↔ (bit q d ≡ 1)
      same d = by_cases (dec_lt d n)
          (λ l. (λ one. (b.each d l).1 ((a.each d l).0 one), λ one. (a.each d l).1 ((b.each d l).0 one)))
          (λ past. (λ one. absurd (omega (arith, a.beyond d (omega arith))), λ one. absurd (omega (arith, b.beyond d (omega arith)))))

  -- where the test holds somewhere, the word is that place
  each_there : (k : ℕ) → k < n → holds k ≡ true → EachBelow holds n (bits_below holds n)
  each_there k l e = record {
    somewhere = (k, l, e);
    each = λ d below. (λ one. ((bits_told holds n d).0 one).1, λ h. (bits_told holds n d).1 (below, h));
    beyond = λ d past. bit_high n (bits_below holds n) d (bits_small holds n) past;
  }

  -- there is one exactly where the test holds somewhere
  pub each_applies : ((p : ℕ) × EachBelow holds n p) ↔ ((k : ℕ) × (k < n) × (holds k ≡ true))
  each_applies = (λ (p, a). a.somewhere, λ (k, l, e). (bits_below holds n, each_there k l e))

  -- where it holds nowhere there is none, and the other way round
  pub none_each : ((p : ℕ) → EachBelow holds n p → ⊥) → Missed holds n
  none_each none k l = not_true_false _ (λ e. none (bits_below holds n) (each_there k l e))

  pub missed_each : (p : ℕ) → Missed holds n → EachBelow holds n p → ⊥
  missed_each p m a = let (k, l, e) = a.somewhere in true≢false (sym e ∙ m k l)

  -- the word is 0 where it holds nowhere, and only there
  missed_zero : Missed holds n → bits_below holds n ≡ 0
  missed_zero m = bits_same n (bits_below holds n) 0 (bits_small holds n) (pow_pos n) (λ d _. (
    λ one. let (l, e) = (bits_told holds n d).0 one in absurd (true≢false (sym e ∙ m d l)),
    λ one. absurd (omega (arith, bit_zero d)),
  ))

  word_there : 0 < bits_below holds n → EachBelow holds n (bits_below holds n)
  word_there some = by_cases (dec_lt (lowest holds n) n)
      (λ l. each_there (lowest holds n) l ((lowest_is holds n).hit l))
      (λ past. absurd (omega (arith, missed_zero (λ k l. (lowest_is holds n).missed k (omega arith)))))

  there_word : (p : ℕ) → EachBelow holds n p → 0 < bits_below holds n
  there_word p a = let (k, l, e) = a.somewhere in not_zero (bits_below holds n) k ((bits_told holds n k).1 (l, e))
    where
      not_zero : (w k : ℕ) → bit w k ≡ 1 → 0 < w
      not_zero zero k one = absurd (omega (arith, bit_zero k))
      not_zero (suc w) k one = omega arith

  pub each_finds : Finds (each_place holds n) (EachBelow holds n)
  each_finds = finds_below 0 (bits_below holds n) (bits_below holds n) each_place_lem word_there there_word

  -- the place has as many bits as there are numbers
  pub each_small : (p : ℕ) → EachBelow holds n p → p < 2 ^ n
  each_small p a = let (k, l, e) = a.somewhere in rw (each_place_lem p (bits_below holds n) a (each_there k l e)) (bits_small holds n)
