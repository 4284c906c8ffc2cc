-- Bytes written into lent memory from a place on, as far as there is room: where the memory ends, what is left is passed over. So every
-- writing function is total, and that a whole text has room has to be shown once, of the text.
use Rattle.std.specs.Prelude.{ℕ, suc, ◌+◌, min, max, ◌≡◌, List, [], ◌∷◌, length, set}

-- bytes with more of them over what stood there, from a place on
unfoldable pub over : List ℕ → ℕ → List ℕ → List ℕ
over bytes at [] = bytes
over bytes at (b ∷ more) = over (set bytes at b) (suc at) more

-- these bytes were written from a place on, and next is the place behind them, or the end of the memory where it comes first
pub record Wrote (before : List ℕ) (at : ℕ) (more after : List ℕ) (next : ℕ) : Type 0 where
  pub bytes : after ≡ over before at more
  pub place : next ≡ max at (min (length before) (at + length more))
