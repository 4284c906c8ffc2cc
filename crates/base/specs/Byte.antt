-- A byte of a list. One that the list does not have reads as 0, so that every test of bytes is defined for any list at all.
use Rattle.std.specs.Prelude.{ℕ, List, get_or}

abbrev pub byte_at : List ℕ → ℕ → ℕ
byte_at bytes i = get_or bytes i 0
