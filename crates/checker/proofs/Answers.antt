-- The checker's stages: each answers at the first refusal that applies, and else hands on.
use Rattle.std.specs.Prelude.{Ok, Err}
use Prim.Native.Nat.{ℕ, ◌+◌, ◌*◌, ◌/◌, ◌%◌, ◌<◌, ◌≤◌}
use mathlib.Core.Path.{◌≡◌}
use mathlib.Core.Bool.{Bool, true, false, not, ◌||◌}
use mathlib.Core.Option.{Option}
use mathlib.Core.List.{List}
use lib.ListN.{length}
use lib.Dec.{eqb, ltb}
use native.Mathlib.Omega.{arith}
use borrow.Author.Tests.{lt-ltb, le-ltb, eqb-true, eqb-false, ltb-false, not-false}
use Rattle.rt0.specs.Credential.{Role}
use Rattle.rt0.specs.Book.{Book, item}
use Rattle.rt0.specs.Slip.{Fact, ◌∋◌, stated}
use Rattle.rt0.specs.Bytes.{lines_of}
use Rattle.rt0.specs.Sizes.{slip_lines, slip_bytes}
use Rattle.base.specs.Refused.{refusal_at}
use Rattle.base.specs.Lowest.{lowest}
use Rattle.base.proofs.Flags.{or_false}
use Rattle.checker.specs.Premise.{same_fact, line_wrong}
use Rattle.checker.specs.Checking.{slip_length_wrong, last_states, last_tests, line_tests, slip_tests, check_by}

-- a right length is that of 1 to 7,680 whole lines
pub slip_length_right : (n : ℕ) → slip_length_wrong n ≡ false → (1 ≤ n / 8) × (n / 8 ≤ slip_lines) × (n ≡ 8 * (n / 8))
slip_length_right n h =
    let (s, m) = or_false (eqb n 0 || ltb slip_bytes n) (not (eqb (n % 8) 0)) h in
    let (z, l) = or_false (eqb n 0) (ltb slip_bytes n) s in
    let nonzero : n ≡ 0 → ⊥ = eqb-false n 0 z in
    let most : n ≤ slip_bytes = ltb-false slip_bytes n l in
    let whole : n % 8 ≡ 0 = eqb-true (n % 8) 0 (not-false (eqb (n % 8) 0) m) in
    omega arith

module _ (book : Book) (ρ : Role) (D : ℕ) (slip : List ℕ) where
  pub last_is : (n : ℕ) (f : Option Fact) (b : Bool) → f ≡ stated book (item (lines_of slip n) n) → b ≡ same_fact f (ρ ∋ D)
      → last_states book ρ D slip n ≡ b
  last_is n f b f_is b_is = rw (b_is, f_is)

  pub last_refused : last_states book ρ D slip (length slip / 8) ≡ false → Err (refusal_at 11 0) ≡ check_by slip (last_tests book ρ D slip)
  unfolding check_by last_tests
  last_refused h = rw h

  pub last_passed : last_states book ρ D slip (length slip / 8) ≡ true → Ok (length slip / 8) ≡ check_by slip (last_tests book ρ D slip)
  unfolding check_by last_tests
  last_passed h = rw h

  pub lines_refused : (i : ℕ) → i ≡ lowest (line_wrong book slip) (length slip / 8) → i < length slip / 8
      → Err (refusal_at 10 (i + 1)) ≡ check_by slip (line_tests book ρ D slip)
  unfolding check_by line_tests
  lines_refused i l h = rw (← l, lt-ltb i (length slip / 8) h)

  pub lines_passed : (i : ℕ) → i ≡ lowest (line_wrong book slip) (length slip / 8) → length slip / 8 ≤ i
      → check_by slip (last_tests book ρ D slip) ≡ check_by slip (line_tests book ρ D slip)
  unfolding check_by line_tests
  lines_passed i l h = rw (← l, le-ltb i (length slip / 8) h)

  pub length_refused : slip_length_wrong (length slip) ≡ true → Err (refusal_at 9 0) ≡ check_by slip (slip_tests book ρ D slip)
  unfolding check_by slip_tests
  length_refused h = rw h

  pub length_passed : slip_length_wrong (length slip) ≡ false
      → check_by slip (line_tests book ρ D slip) ≡ check_by slip (slip_tests book ρ D slip)
  unfolding check_by slip_tests
  length_passed h = rw h
