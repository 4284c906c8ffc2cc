-- A refusal as the code has it, and what an answer comes to that may be one: the number and the place, which are 0 where nothing is refused.
use Rattle.std.specs.Prelude.{ℕ, Result, Ok, Err}
use Rattle.base.specs.declared.refusal.Refusal.{Refusal}

-- the refusal with this number at this place
abbrev pub refusal_at : ℕ → ℕ → Refusal ℕ
refusal_at n p = record { number = n; place = p }

abbrev pub number_of : {T : Type 0} → Result T (Refusal ℕ) → ℕ
number_of (Ok value) = 0
number_of (Err why) = why.number

abbrev pub place_of : {T : Type 0} → Result T (Refusal ℕ) → ℕ
place_of (Ok value) = 0
place_of (Err why) = why.place
