-- The paper's numbers. With at most 32 entities there are at most 32 rounds for each distinct head; with a book of at most 240 numbers
-- besides, at most 7,680 rounds, and for every member a slip of 1 to 7,680 lines that states no fact twice.
use Prim.Native.Nat.{ℕ, ◌*◌, ◌≤◌}
use native.Mathlib.Nat.{mul-le-mul_right}
use native.Mathlib.Omega.{arith}
use mathlib.Core.List.{List}
use lib.ListN.{length}
use Rattle.rt0.specs.Credential.{Role, Credential, AllValid}
use Rattle.rt0.specs.Membership.{Member}
use Rattle.rt0.specs.Table.{Rounds, distinct_heads}
use Rattle.rt0.specs.Book.{Book, Numbers}
use Rattle.rt0.specs.Sizes.{most_rounds, slip_lines}
use Rattle.rt0.specs.Slip.{Line, ◌∋◌, SlipFor, NoFactTwice}
use Rattle.rt0.proofs.Heads.{heads_few}
use Rattle.rt0.proofs.Settle.{rounds_few}
use Rattle.rt0.proofs.Says.{says_within}
use Rattle.rt0.proofs.Slips.{slip_complete, slip_short}

module _ (E R : ℕ) (entities : E ≤ 32) (cs : List Credential) (v : AllValid E R cs) where
  -- E for each distinct head is at most 32 for each
  heads_times : E * length (distinct_heads cs) ≤ 32 * length (distinct_heads cs)
  heads_times = mul-le-mul_right (length (distinct_heads cs)) entities

  pub rounds_by_heads : (n : ℕ) → Rounds cs n → n ≤ 32 * length (distinct_heads cs)
  rounds_by_heads n h = omega (arith, rounds_few E R cs v n h, heads_times)

  -- and at most 7,680 in all, where a book has at most 240 numbers for the credentials
  module _ (book : Book) {most : ℕ} (numbers : Numbers book cs most) (few : most ≤ 240) where
    heads_most : 32 * length (distinct_heads cs) ≤ most_rounds
    heads_most = omega (arith, heads_few numbers)

    pub rounds_most : (n : ℕ) → Rounds cs n → n ≤ most_rounds
    rounds_most n h = omega (arith, rounds_by_heads n h, heads_most)

    -- a right slip that states no fact twice fits
    pub slip_most : (lines : List Line) (ρ : Role) (D : ℕ) → SlipFor book ρ D lines → NoFactTwice book lines
        → (1 ≤ length lines) × (length lines ≤ slip_lines)
    slip_most lines ρ D s once =
        let inside = says_within book lines (length lines) (ρ ∋ D) s.last in
        let short = slip_short E R cs v book numbers.only lines s.right once in
        omega (arith, heads_times, heads_most)

    -- for every member there is one
    pub slip_fits : (ρ : Role) (D : ℕ) → Member cs ρ D
        → (lines : List Line) × SlipFor book ρ D lines × NoFactTwice book lines × (1 ≤ length lines) × (length lines ≤ slip_lines)
    slip_fits ρ D m =
        let (lines, s, once) = slip_complete E R cs v book numbers ρ D m in
        let fits = slip_most lines ρ D s once in
        (lines, s, once, fits.0, fits.1)
