-- The layout of block 0, and of what stands beside the records of a record block, byte by byte; and which blocks and records of a bundle are
-- wrong. Blocks and records are counted here from 0: record i is the paper's number i + 1, record block j + 1 the paper's number j + 1.
use Rattle.std.specs.Prelude.{ℕ, ◌+◌, ◌-◌, ◌*◌, ◌/◌, ◌%◌, min, Bool, not, ◌&&◌, ◌||◌, List, length, take, drop, eqb, ltb, leb}
use Rattle.base.specs.Byte.{byte_at}
use Rattle.base.specs.Range.{outside}
use Rattle.base.specs.Lowest.{any_below}
use Rattle.block.specs.Block.{block, check_wrong, block_of, start_of}
use Rattle.records.specs.Mistake.{record_wrong}
use Rattle.bundle.specs.Edition.{most_names, edition_for}
use Rattle.bundle.specs.declared.read.Sizes.{Sizes}

-- the bytes of the longest bundle: seven blocks of 512
abbrev pub longest_bundle : ℕ
longest_bundle = 3584

-- the length is 0, above that or no multiple of 512
abbrev pub length_wrong : ℕ → Bool
length_wrong n = eqb n 0 || ltb longest_bundle n || not (eqb (n % 512) 0)

-- the number of blocks of a bundle
abbrev pub blocks : List ℕ → ℕ
blocks bytes = length bytes / 512

-- what block 0 says, at the start of a bundle: E, R and N
abbrev pub entities_of : List ℕ → ℕ
entities_of bytes = byte_at bytes 1

abbrev pub names_of : List ℕ → ℕ
names_of bytes = byte_at bytes 2

abbrev pub records_of : List ℕ → ℕ
records_of bytes = byte_at bytes 3

abbrev pub sizes_in : List ℕ → Sizes
sizes_in bytes = record { entities = entities_of bytes; names = names_of bytes; records = records_of bytes }

-- byte i of block 0 is wrong: byte 0 is the edition, bytes 1, 2 and 3 are E, R and N, byte 3 + A is the mark of shelf A, 1 or 2, for A
-- up to E, and every byte behind the marks is 0
abbrev pub first_byte_wrong : ℕ → ℕ → ℕ → ℕ → Bool
first_byte_wrong edition E i b =
    eqb i 0 && not (eqb b edition)
    || eqb i 1 && outside 32 b
    || eqb i 2 && outside most_names b
    || eqb i 3 && ltb 240 b
    || (leb 4 i && leb i (3 + E)) && (not (eqb b 1) && not (eqb b 2))
    || (leb 4 i && ltb (3 + E) i) && not (eqb b 0)

-- block 0 breaks its layout; its edition is the one that its R asks for
unfoldable pub first_wrong : List ℕ → Bool
first_wrong first = any_below (λ i. first_byte_wrong (edition_for (names_of first)) (entities_of first) i (byte_at first i)) 510

-- block 0, then one record block for every 40 credentials begun
abbrev pub blocks_for : ℕ → ℕ
blocks_for N = 1 + (N + 39) / 40

-- the number of records in record block j + 1: 40 in all but the last block
abbrev pub records_in : ℕ → ℕ → ℕ
records_in N j = min 40 (N - 40 * j)

-- byte i of record block j + 1 with so many records is wrong: behind the records it is 0 up to byte 507, byte 508 is the
-- block's number and byte 509 the number of records
abbrev pub beside_byte_wrong : ℕ → ℕ → ℕ → ℕ → Bool
beside_byte_wrong j records i b =
    (leb (12 * records) i && ltb i 508) && not (eqb b 0)
    || eqb i 508 && not (eqb b (j + 1))
    || eqb i 509 && not (eqb b records)

-- the bytes beside the records of record block j + 1 with so many records are wrong
unfoldable pub beside_wrong : ℕ → ℕ → List ℕ → Bool
beside_wrong j records b = any_below (λ i. beside_byte_wrong j records i (byte_at b i)) 510

-- the check of block k of a bundle differs
abbrev pub bad_check : List ℕ → ℕ → Bool
bad_check bytes k = check_wrong (block bytes k)

-- the bytes beside the records of record block j + 1 of a bundle are wrong
abbrev pub bad_beside : List ℕ → ℕ → Bool
bad_beside bytes j = beside_wrong j (records_in (records_of bytes) j) (block bytes (j + 1))

-- the twelve bytes of record i
abbrev pub record_bytes : List ℕ → ℕ → List ℕ
record_bytes bytes i = take 12 (drop (start_of i) (block bytes (block_of i)))

-- record i of a bundle is wrong over the E and R of its block 0
abbrev pub bad_record : List ℕ → ℕ → Bool
bad_record bytes i = record_wrong (entities_of bytes) (names_of bytes) (record_bytes bytes i)
