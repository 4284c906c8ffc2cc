-- The paper's bounds, each named once, for the search that keeps them and the checker that asks for them: with at most 32 entities and 240
-- credentials. They are plain numerals, so that arithmetic sees them.
use Rattle.std.specs.Prelude.{ℕ}

-- the most rounds: 32 for each credential
abbrev pub most_rounds : ℕ
most_rounds = 7680

-- the lines of the longest slip: 32 for each credential
abbrev pub slip_lines : ℕ
slip_lines = 7680

-- its bytes: 8 for each line
abbrev pub slip_bytes : ℕ
slip_bytes = 61440
