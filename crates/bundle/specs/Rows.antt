-- The reader's table of refusals, in the paper's order: when each row applies to a list of bytes, and at which place. And what an answer of
-- the reader comes to by it, in the paper's number and place.
use Rattle.std.specs.Prelude.{ℕ, ◌-◌, ◌%◌, ◌<◌, ◌≡◌, true, ◌⊎◌, List, [], ◌∷◌, length, Result, Ok, Err}
use Rattle.base.specs.declared.refusal.Refusal.{Refusal}
use Rattle.base.specs.Refused.{number_of, place_of}
use Rattle.base.specs.Lowest.{LowestBelow}
use Rattle.base.specs.Refusals.{Row, row, AtZero, FromOne, Due, Clear, Judged}
use Rattle.block.specs.Block.{block}
use Rattle.bundle.specs.declared.read.Sizes.{Sizes}
use Rattle.records.specs.Mistake.{mistake_rows}
use Rattle.bundle.specs.Each.{EachBelow}
use Rattle.bundle.specs.Layout.{longest_bundle, blocks, entities_of, names_of, records_of, record_bytes, sizes_in, first_wrong, blocks_for, bad_check, bad_beside, bad_record}

-- length is 0, above 3,584 or no multiple of 512
abbrev pub LengthWrong : ℕ → Type 0
LengthWrong n = (n ≡ 0) ⊎ ((longest_bundle < n) ⊎ (n % 512 ≡ 0 → ⊥))

-- record i is the lowest wrong one, and of what is wrong with it this number is due
pub record MistakeAt (bytes : List ℕ) (number i : ℕ) : Type 0 where
  pub record_there : LowestBelow (bad_record bytes) (records_of bytes) i
  pub mistake : Due (mistake_rows (entities_of bytes) (names_of bytes) (record_bytes bytes i)) number 0

-- unknown form; number of parts not 2 or 3; entity out of range; role name out of range; a byte that should be zero
abbrev pub record_rows : List ℕ → List Row
record_rows bytes =
    row 61 (FromOne (MistakeAt bytes 61))
    ∷ row 62 (FromOne (MistakeAt bytes 62))
    ∷ row 63 (FromOne (MistakeAt bytes 63))
    ∷ row 64 (FromOne (MistakeAt bytes 64))
    ∷ row 65 (FromOne (MistakeAt bytes 65))
    ∷ []

abbrev pub reader_rows : List ℕ → List Row
reader_rows bytes =
    row 1 (AtZero (LengthWrong (length bytes)))
    -- some block's check differs; bit k of the place is 1 exactly if that of block k does, for all blocks that the length gives
    ∷ row 2 (EachBelow (bad_check bytes) (blocks bytes))
    -- block 0 breaks its layout
    ∷ row 3 (AtZero (first_wrong (block bytes 0) ≡ true))
    -- the number of blocks does not fit N
    ∷ row 4 (AtZero (blocks bytes ≡ blocks_for (records_of bytes) → ⊥))
    -- a record block's bytes beside its records are wrong; the lowest such block
    ∷ row 5 (FromOne (LowestBelow (bad_beside bytes) (blocks bytes - 1)))
    ∷ record_rows bytes

abbrev pub no_sizes : Sizes
no_sizes = record { entities = 0; names = 0; records = 0 }

-- the sizes that an answer says
abbrev pub sizes_of : Result Sizes (Refusal ℕ) → Sizes
sizes_of (Ok s) = s
sizes_of (Err why) = no_sizes

-- this is the reader's answer to the bytes: the refusal that is due, or, where no row applies, what block 0 says
abbrev pub Reads : List ℕ → Result Sizes (Refusal ℕ) → Type 0
Reads bytes r = Judged (reader_rows bytes) (number_of r) (place_of r) (sizes_of r ≡ no_sizes) (sizes_of r ≡ sizes_in bytes)

-- the bytes are a bundle of these sizes: no row applies, and block 0 says so
pub record Accepts (bytes : List ℕ) (s : Sizes) : Type 0 where
  pub clear : Clear (reader_rows bytes)
  pub said : s ≡ sizes_in bytes
