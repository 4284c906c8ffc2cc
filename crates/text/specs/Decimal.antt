-- A number in decimal, as the ASCII bytes of its digits (48 for 0 to 57 for 9), and the number that digits read back as.
-- The laws that join the two stand in proofs/Decimal.antt.
use Rattle.std.specs.Prelude.{ℕ, zero, suc, ◌+◌, ◌-◌, ◌*◌, ◌/◌, ◌%◌, cond, List, [], ◌∷◌, ◌++◌, ltb}

-- the digits of n: those of n / 10, and then the last one; the first argument bounds how many more are looked for
unfoldable pub digits_within : ℕ → ℕ → List ℕ
digits_within zero n = (48 + n) ∷ []
digits_within (suc more) n = cond (ltb n 10) ((48 + n) ∷ []) (digits_within more (n / 10) ++ (48 + n % 10) ∷ [])

-- n in decimal: n itself is bound enough
unfoldable pub decimal : ℕ → List ℕ
decimal n = digits_within n n

-- what digits read as after digits that read as n
unfoldable pub read_after : ℕ → List ℕ → ℕ
read_after n [] = n
read_after n (digit ∷ digits) = read_after (10 * n + (digit - 48)) digits

-- the number that digits read as, from the first to the last
abbrev pub value_of : List ℕ → ℕ
value_of digits = read_after 0 digits
