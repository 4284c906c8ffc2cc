-- A number that says of each number below n whether a test holds there, by its bits: as a statement of a row's place, and as a test that
-- computes it. Of seven blocks 10 = 2 + 8 says: blocks 1 and 3.
use Rattle.std.specs.Prelude.{ℕ, ◌<◌, ◌≤◌, ◌≡◌, Bool, true, ◌↔◌}
use Rattle.std.proofs.Math.Option.{Option}
use Rattle.rt0.specs.Word.{bit, bits_below}
use Rattle.base.specs.Refusals.{place_below}

-- the test holds somewhere below n; bit k is 1 exactly if it holds at k; no bit from n on
pub record EachBelow (holds : ℕ → Bool) (n place : ℕ) : Type 0 where
  pub somewhere : (k : ℕ) × (k < n) × (holds k ≡ true)
  pub each : (k : ℕ) → k < n → (bit place k ≡ 1) ↔ (holds k ≡ true)
  pub beyond : (k : ℕ) → n ≤ k → bit place k ≡ 0

-- that number, where it is not 0
abbrev pub each_place : (ℕ → Bool) → ℕ → Option ℕ
each_place holds n = place_below 0 (bits_below holds n) (bits_below holds n)
