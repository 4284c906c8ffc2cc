-- An outcome as one number of 64 bits, and the five parts read back. That they come back is in proofs/Packing.antt.
use Rattle.std.specs.Prelude.{ℕ, ◌+◌, ◌*◌, ◌/◌, ◌%◌, ◌^◌, ◌<◌, ◌≡◌}
use Rattle.answers.specs.Answer.{Outcome}

-- number in bits 56 to 63, place in 40 to 55, verdict in 32 to 39, rounds in 16 to 31, lines in 0 to 15
abbrev pub packed : Outcome → ℕ
packed o = o.number * 2 ^ 56 + o.place * 2 ^ 40 + o.verdict * 2 ^ 32 + o.rounds * 2 ^ 16 + o.lines

-- so many bits of n, from bit number `from` on
abbrev pub bits : ℕ → ℕ → ℕ → ℕ
bits from count n = n / 2 ^ from % 2 ^ count

-- the five parts of a packed number
abbrev pub number_in : ℕ → ℕ
number_in n = bits 56 8 n

abbrev pub place_in : ℕ → ℕ
place_in n = bits 40 16 n

abbrev pub verdict_in : ℕ → ℕ
verdict_in n = bits 32 8 n

abbrev pub rounds_in : ℕ → ℕ
rounds_in n = bits 16 16 n

abbrev pub lines_in : ℕ → ℕ
lines_in n = bits 0 16 n

-- the outcome that a packed number stands for
abbrev pub unpacked : ℕ → Outcome
unpacked n = record { number = number_in n; place = place_in n; verdict = verdict_in n; rounds = rounds_in n; lines = lines_in n }

-- an outcome whose parts fit their bits
pub record Fits (o : Outcome) : Type 0 where
  pub number : o.number < 2 ^ 8
  pub place : o.place < 2 ^ 16
  pub verdict : o.verdict < 2 ^ 8
  pub rounds : o.rounds < 2 ^ 16
  pub lines : o.lines < 2 ^ 16

-- a number of 64 bits packs an outcome, whose parts fit
pub record Packs (o : Outcome) (n : ℕ) : Type 0 where
  pub packing : n ≡ packed o
  pub fits : Fits o
