-- The bytes of a content, each by its place: block 0, then one record block for every 40 records begun, each with its check.
use Rattle.std.specs.Prelude.{ℕ, zero, suc, ◌+◌, ◌*◌, ◌/◌, ◌%◌, cond, List, ◌++◌, drop, eqb, ltb}
use Rattle.base.specs.Byte.{byte_at}
use Rattle.block.specs.Block.{check_of}
use Rattle.bundle.specs.Edition.{edition_for}
use Rattle.bundle.specs.Layout.{blocks_for, records_in}
use Rattle.content.specs.Content.{Content, count, record_at, tabulate}

-- the edition of a content, which stands in byte 0
abbrev pub edition_of : Content → ℕ
edition_of c = edition_for c.names

-- byte i of block 0 below its check: the edition, E, R, N, and the marks of the shelves with zeros behind them
abbrev pub first_byte : Content → ℕ → ℕ
first_byte c zero = edition_of c
first_byte c (suc zero) = c.entities
first_byte c (suc (suc zero)) = c.names
first_byte c (suc (suc (suc zero))) = count c
first_byte c (suc (suc (suc (suc i)))) = byte_at c.marks i

-- byte i of record block j + 1 below its check: up to 40 records of twelve bytes, unused places zero; zeros up to byte 507; the block's
-- number at 508 and the number of its records at 509
unfoldable pub records_byte : Content → ℕ → ℕ → ℕ
records_byte c j i =
    cond (ltb i 480) (byte_at (record_at c (40 * j + i / 12)) (i % 12))
    (cond (ltb i 508) 0 (cond (eqb i 508) (suc j) (records_in (count c) j)))

-- byte i of block k below its check
abbrev pub block_byte : Content → ℕ → ℕ → ℕ
block_byte c zero i = first_byte c i
block_byte c (suc j) i = records_byte c j i

-- the check of a block whose bytes below 510 are these
unfoldable pub check_by : (ℕ → ℕ) → ℕ
check_by f = check_of (tabulate f 510)

-- byte i of such a block with its check in bytes 510 and 511, low byte first
unfoldable pub sealed : (ℕ → ℕ) → ℕ → ℕ
sealed f i = cond (ltb i 510) (f i) (cond (eqb i 510) (check_by f % 256) (check_by f / 256))

-- the whole block
unfoldable pub sealed_block : (ℕ → ℕ) → List ℕ
sealed_block f = tabulate (sealed f) 512

-- byte i of a content
unfoldable pub byte_of : Content → ℕ → ℕ
byte_of c i = sealed (block_byte c (i / 512)) (i % 512)

-- the number of bytes of a content
abbrev pub size_of : Content → ℕ
size_of c = 512 * blocks_for (count c)

-- its bytes
unfoldable pub encode : Content → List ℕ
encode c = tabulate (byte_of c) (size_of c)

-- a buffer with the bytes of a content at its front, and the rest as it was
abbrev pub written : Content → List ℕ → List ℕ
written c before = encode c ++ drop (size_of c) before
