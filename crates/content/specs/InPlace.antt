-- What writing in place leaves: a buffer with another block, the two blocks that a record put last changes, and the blocks of a new bundle.
use Rattle.std.specs.Prelude.{ℕ, ◌+◌, ◌-◌, ◌*◌, ◌/◌, ◌%◌, ◌<◌, ◌≤◌, ◌≡◌, cond, List, ◌++◌, length, take, drop, eqb, ltb}
use Rattle.base.specs.Byte.{byte_at}
use Rattle.block.specs.Block.{block, block_of, start_of}
use Rattle.bundle.specs.Layout.{records_in}
use Rattle.content.specs.Content.{Content, most_records, count, whole_records, added}
use Rattle.content.specs.Encode.{sealed_block, byte_of, size_of, written}

-- a buffer with another block k
unfoldable pub replaced : List ℕ → ℕ → List ℕ → List ℕ
replaced buffer k b = take (512 * k) buffer ++ (b ++ drop 512 (drop (512 * k) buffer))

-- a buffer with the check of block k worked out and stored
unfoldable pub sealed_at : List ℕ → ℕ → List ℕ
sealed_at buffer k = replaced buffer k (sealed_block (byte_at (block buffer k)))

-- a block whose bytes below i are these
pub record Filled (f : ℕ → ℕ) (i : ℕ) (b : List ℕ) : Type 0 where
  pub size : length b ≡ 512
  pub bytes : (k : ℕ) → k < i → byte_at b k ≡ f k

-- a record block from the place of its last record on, which has n before it in the bundle: the record's bytes, zeros up to byte 507, the
-- block's number and the number of its records
abbrev pub last_byte : ℕ → List ℕ → ℕ → ℕ
last_byte n bytes i = cond (ltb i 508) (byte_at bytes (i - start_of n)) (cond (eqb i 508) (block_of n) (n % 40 + 1))

-- a record block with that record put last; the bytes before it are as they were
unfoldable pub placed : ℕ → List ℕ → (ℕ → ℕ) → ℕ → ℕ
placed n bytes f i = cond (ltb i (start_of n)) (f i) (last_byte n bytes i)

-- byte i of block 0 from what is given, and byte i of record block j + 1 from a list of records one after the other: what a new bundle's
-- blocks are written from
abbrev pub given_byte : ℕ → ℕ → ℕ → ℕ → List ℕ → ℕ → ℕ
given_byte edition E R N marks i =
    cond (eqb i 0) edition (cond (eqb i 1) E (cond (eqb i 2) R (cond (eqb i 3) N (byte_at marks (i - 4)))))

abbrev pub listed_byte : List ℕ → ℕ → ℕ → ℕ
listed_byte list j i =
    cond (ltb i 480) (byte_at list (480 * j + i)) (cond (ltb i 508) 0 (cond (eqb i 508) (j + 1) (records_in (whole_records list) j)))

-- a buffer with that record put last in its block, whose check is still the old one
pub record PutBlock (n : ℕ) (bytes before after : List ℕ) : Type 0 where
  pub same : length after ≡ length before
  pub here : (i : ℕ) → i < 510 → byte_at after (512 * block_of n + i) ≡ placed n bytes (byte_at (block before (block_of n))) i
  pub others : (i : ℕ) → (i / 512 ≡ block_of n → ⊥) → byte_at after i ≡ byte_at before i

-- a buffer starts with the bytes of a content
abbrev pub StartsWith : Content → List ℕ → Type 0
StartsWith c buffer = (i : ℕ) → i < size_of c → byte_at buffer i ≡ byte_of c i

-- a buffer that started with a content then has that content with a record put last
abbrev pub PutLast : List ℕ → List ℕ → List ℕ → Type 0
PutLast before bytes after =
    (c : Content) → count c < most_records → length bytes ≡ 12 → StartsWith c before → size_of (added c bytes) ≤ length before
    → after ≡ written (added c bytes) before
