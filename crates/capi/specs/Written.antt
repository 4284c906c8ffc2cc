-- The packed answers of the writer and of letters: the number of a refusal, or 0, and below it the place of the refusal, or the number of bytes
-- that were written.
use Rattle.std.specs.Prelude.{ℕ, ◌+◌, ◌*◌, ◌%◌, ◌^◌, ◌<◌, ◌≡◌, cond, List, eqb, Result, Ok, Err}
use Rattle.base.specs.declared.refusal.Refusal.{Refusal}
use Rattle.base.specs.Refused.{refusal_at, number_of}
use Rattle.answers.specs.Pack.{bits, number_in}
use Rattle.writer.specs.Promise.{Writes, Appends}
use Rattle.letters.specs.Promise as letter

-- what stands below the number: the length, or the place of the refusal
abbrev pub below_of : Result ℕ (Refusal ℕ) → ℕ
below_of (Ok n) = n
below_of (Err why) = why.place

-- number in bits 56 to 63; in bits 0 to 55 what stands below it, modulo 2 ^ 56
abbrev pub packed_numbers : ℕ → ℕ → ℕ
packed_numbers number below = number * 2 ^ 56 + below % 2 ^ 56

abbrev pub packed_wrote : Result ℕ (Refusal ℕ) → ℕ
packed_wrote answer = packed_numbers (number_of answer) (below_of answer)

-- what stands below the number of a result
abbrev pub below_in : ℕ → ℕ
below_in result = bits 0 56 result

-- the answer that a result stands for
abbrev pub unpacked_wrote : ℕ → Result ℕ (Refusal ℕ)
unpacked_wrote result = cond (eqb (number_in result) 0) (Ok (below_in result)) (Err (refusal_at (number_in result) (below_in result)))

-- a number of 64 bits packs an answer, whose own number fits
pub record PacksWrote (answer : Result ℕ (Refusal ℕ)) (result : ℕ) : Type 0 where
  pub packing : result ≡ packed_wrote answer
  pub fits : number_of answer < 2 ^ 8

-- the result is an answer that keeps a promise, packed
pub record PackedAnswer (Promised : Result ℕ (Refusal ℕ) → Type 0) (result : ℕ) : Type 0 where
  pub answer : Result ℕ (Refusal ℕ)
  pub keeps : Promised answer
  pub packs : PacksWrote answer result

-- to a write, and to an append
abbrev pub PackedWrite : ℕ → ℕ → List ℕ → List ℕ → List ℕ → List ℕ → ℕ → Type 0
PackedWrite E R marks list before after result = PackedAnswer (λ answer. Writes E R marks list before answer after) result

abbrev pub PackedAppend : List ℕ → ℕ → List ℕ → List ℕ → ℕ → Type 0
PackedAppend before n bytes after result = PackedAnswer (λ answer. Appends before n bytes answer after) result

-- to reading a letter, and to writing one
abbrev pub PackedReadLines : ℕ → ℕ → List ℕ → List ℕ → List ℕ → ℕ → Type 0
PackedReadLines E R text before after result = PackedAnswer (λ answer. letter.Reads E R text before answer after) result

abbrev pub PackedWriteLines : ℕ → ℕ → List ℕ → List ℕ → List ℕ → ℕ → Type 0
PackedWriteLines E R list before after result = PackedAnswer (λ answer. letter.Writes E R list before answer after) result
