-- The lowest number below n at which a test holds: as a statement, and as a function, which gives n where there is none.
-- Every "lowest such" of the paper is one of these.
use Rattle.std.specs.Prelude.{ℕ, zero, suc, ◌<◌, ◌≡◌, Bool, true, false, cond, ltb}

-- k is below n, the test holds at k, and at none below k
pub record LowestBelow (test : ℕ → Bool) (n k : ℕ) : Type 0 where
  pub below : k < n
  pub holds : test k ≡ true
  pub lowest : (j : ℕ) → j < k → test j ≡ false

unfoldable pub lowest : (ℕ → Bool) → ℕ → ℕ
lowest test zero = zero
lowest test (suc n) = let k = lowest test n in cond (ltb k n) k (cond (test n) n (suc n))

-- the test holds at some number below n
abbrev pub any_below : (ℕ → Bool) → ℕ → Bool
any_below test n = ltb (lowest test n) n
