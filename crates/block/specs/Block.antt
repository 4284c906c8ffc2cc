-- A block of 512 bytes and its check. A byte that a list does not have reads as 0.
use Rattle.std.specs.Prelude.{ℕ, zero, suc, ◌+◌, ◌*◌, ◌/◌, ◌%◌, Bool, not, List, take, drop, eqb}
use Rattle.base.specs.Byte.{byte_at}

-- block k of a bundle
abbrev pub block : List ℕ → ℕ → List ℕ
block bytes k = take 512 (drop (512 * k) bytes)

-- the sum of (i + 1) times byte i, for i below n
unfoldable pub weighed : List ℕ → ℕ → ℕ
weighed bytes zero = 0
weighed bytes (suc i) = weighed bytes i + suc i * byte_at bytes i

-- the check that a block's bytes have: the remainder by 65,521 of 1 plus the sum of (i + 1) times byte i, for i from 0 to 509
unfoldable pub check_of : List ℕ → ℕ
check_of bytes = (1 + weighed bytes 510) % 65521

-- the check that stands in bytes 510 and 511, low byte first
abbrev pub stored_check : List ℕ → ℕ
stored_check bytes = byte_at bytes 510 + 256 * byte_at bytes 511

-- the check differs
unfoldable pub check_wrong : List ℕ → Bool
check_wrong bytes = not (eqb (check_of bytes) (stored_check bytes))

-- of the record that has so many records before it: the number of its block, 40 to a block behind block 0, and the byte of that block at
-- which its twelve bytes start
abbrev pub block_of : ℕ → ℕ
block_of i = i / 40 + 1

abbrev pub start_of : ℕ → ℕ
start_of i = 12 * (i % 40)
