-- Numbers that count something are 1 to most; 0 is never one of them. The statement, and the test that computes it.
use Rattle.std.specs.Prelude.{ℕ, ◌<◌, ◌≡◌, Bool, ◌||◌, ◌⊎◌, eqb, ltb}

-- the number is 0 or above the most
abbrev pub Outside : ℕ → ℕ → Type 0
Outside most b = (b ≡ 0) ⊎ (most < b)

abbrev pub outside : ℕ → ℕ → Bool
outside most b = eqb b 0 || ltb most b
