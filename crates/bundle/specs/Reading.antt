-- The reader's answer as tests that compute, in the order of the rows: each stage of the reader has the tests from its own on.
use Rattle.std.specs.Prelude.{ℕ, ◌-◌, not, List, [], ◌∷◌, length, eqb, Result, Ok, Err}
use Rattle.base.specs.declared.refusal.Refusal.{Refusal as Refused}
use Rattle.base.specs.Refused.{refusal_at}
use Rattle.base.specs.Refusals.{Refusal, given, clear, Test, test, zero_if, lowest_from_one, first}
use Rattle.base.specs.Lowest.{lowest}
use Rattle.block.specs.Block.{block}
use Rattle.records.specs.Mistake.{mistake_kind, kind_number}
use Rattle.bundle.specs.Each.{each_place}
use Rattle.bundle.specs.declared.read.Sizes.{Sizes}
use Rattle.bundle.specs.Layout.{length_wrong, blocks, entities_of, names_of, records_of, record_bytes, sizes_in, first_wrong, blocks_for, bad_check, bad_beside, bad_record}

-- the paper's number of what is wrong with record i, 0 for nothing
abbrev pub mistake_in : List ℕ → ℕ → ℕ
mistake_in bytes i = kind_number (mistake_kind (entities_of bytes) (names_of bytes) (record_bytes bytes i))

-- the records, at last: the lowest wrong one, with the number of what is wrong with it
unfoldable pub record_tests : List ℕ → List Test
record_tests bytes =
    test (mistake_in bytes (lowest (bad_record bytes) (records_of bytes))) (lowest_from_one (bad_record bytes) (records_of bytes)) ∷ []

-- the bytes beside the records
unfoldable pub beside_tests : List ℕ → List Test
beside_tests bytes = test 5 (lowest_from_one (bad_beside bytes) (blocks bytes - 1)) ∷ record_tests bytes

-- whether the number of blocks fits N
unfoldable pub count_tests : List ℕ → List Test
count_tests bytes = test 4 (zero_if (not (eqb (blocks bytes) (blocks_for (records_of bytes))))) ∷ beside_tests bytes

-- block 0
unfoldable pub first_tests : List ℕ → List Test
first_tests bytes = test 3 (zero_if (first_wrong (block bytes 0))) ∷ count_tests bytes

-- the checks of all blocks
unfoldable pub check_tests : List ℕ → List Test
check_tests bytes = test 2 (each_place (bad_check bytes) (blocks bytes)) ∷ first_tests bytes

-- all tests
unfoldable pub reader_tests : List ℕ → List Test
reader_tests bytes = test 1 (zero_if (length_wrong (length bytes))) ∷ check_tests bytes

-- the answer for a refusal, or for none
abbrev pub reading_for : List ℕ → Refusal → Result Sizes (Refused ℕ)
reading_for bytes (given number place) = Err (refusal_at number place)
reading_for bytes clear = Ok (sizes_in bytes)

-- the answer by some tests
unfoldable pub read_by : List ℕ → List Test → Result Sizes (Refused ℕ)
read_by bytes tests = reading_for bytes (first tests)

-- the answer to every list of bytes
abbrev pub read_of : List ℕ → Result Sizes (Refused ℕ)
read_of bytes = read_by bytes (reader_tests bytes)
