-- An answer of the writer or of letters, as that of a list, which the programs of lists can say; and what such an answer comes to by a
-- program's table of refusals.
use Rattle.std.specs.Prelude.{ℕ, ◌≤◌, min, ◌≡◌, List, length, take, Result, Ok, Err}
use Rattle.base.specs.declared.refusal.Refusal.{Refusal}
use Rattle.base.specs.Refused.{refusal_at, number_of, place_of}
use Rattle.base.specs.Refusals.{Row, Judged}

-- the highest place that a line says
abbrev pub most_place : ℕ
most_place = 65535

-- as the answer of a list
abbrev pub listed_as : Result ℕ (Refusal ℕ) → Result ℕ (Refusal ℕ)
listed_as (Ok n) = Ok n
listed_as (Err why) = Err (refusal_at why.number (min most_place why.place))

-- the answer is the number of bytes at the front of what was lent, and these may be given
pub record Front (Given : List ℕ → Type 0) (after : List ℕ) (r : Result ℕ (Refusal ℕ)) : Type 0 where
  pub size : ℕ
  pub answer : r ≡ Ok size
  pub inside : size ≤ length after
  pub given : Given (take size after)

-- an answer by a table: the refusal that is due, at a place that a line says, or bytes that may be given
abbrev pub Gives : List Row → (List ℕ → Type 0) → List ℕ → Result ℕ (Refusal ℕ) → Type 0
Gives rows Given after r = Judged rows (number_of r) (place_of r) (place_of r ≤ most_place) (Front Given after r)
