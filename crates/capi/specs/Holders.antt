-- The packed answer to who must hold a record: the number and the place of a refusal, whether the record is structurally well typed, and the
-- shelves that must hold it.
use Rattle.std.specs.Prelude.{ℕ, ◌+◌, ◌*◌, ◌^◌, ◌≡◌, List, Result, Ok, Err, Option, Some, None}
use Rattle.base.specs.declared.refusal.Refusal.{Refusal}
use Rattle.base.specs.Refused.{number_of, place_of}
use Rattle.storage.specs.Promise.{StoragePromise}

-- 1 for a structurally well typed record
abbrev pub well_of : Result (Option ℕ) (Refusal ℕ) → ℕ
well_of (Ok (Some shelves)) = 1
well_of (Ok None) = 0
well_of (Err why) = 0

-- the shelves that must hold it, none unless it is well typed
abbrev pub shelves_of : Result (Option ℕ) (Refusal ℕ) → ℕ
shelves_of (Ok (Some shelves)) = shelves
shelves_of (Ok None) = 0
shelves_of (Err why) = 0

-- number in bits 56 to 63, place in 40 to 55, bit 32 set if the record is structurally well typed, the shelves in bits 0 to 31
abbrev pub packed_storage : Result (Option ℕ) (Refusal ℕ) → ℕ
packed_storage answer = number_of answer * 2 ^ 56 + place_of answer * 2 ^ 40 + well_of answer * 2 ^ 32 + shelves_of answer

-- the result is the answer, packed
pub record PackedHolders (bundle sheet : List ℕ) (n result : ℕ) : Type 0 where
  pub answer : Result (Option ℕ) (Refusal ℕ)
  pub promise : StoragePromise bundle sheet n answer
  pub packing : result ≡ packed_storage answer
