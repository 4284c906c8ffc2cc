-- The bytes of the blocks as the code finds them, one after the other.
use Prim.Native.Nat.{ℕ, ◌+◌, ◌-◌, ◌*◌, ◌%◌, ◌<◌, ◌≤◌}
use mathlib.Core.Path.{◌≡◌}
use mathlib.Core.List.{List}
use native.Mathlib.Omega.{arith}
use borrow.Author.Tests.{lt-ltb, le-ltb, ne_eqb}
use Rattle.base.specs.Byte.{byte_at}
use Rattle.block.specs.Block.{block_of, start_of}
use Rattle.bundle.specs.Layout.{records_in}
use Rattle.content.specs.Content.{whole_records}
use Rattle.content.specs.InPlace.{last_byte, given_byte, listed_byte}

-- block 0
module _ (edition E R N : ℕ) (marks : List ℕ) (i : ℕ) where
  pub given_edition : i ≡ 0 → edition ≡ given_byte edition E R N marks i
  given_edition e = rw e

  module _ (zero_no : i ≡ 0 → ⊥) where
    pub given_entities : i ≡ 1 → E ≡ given_byte edition E R N marks i
    given_entities e = rw e

    module _ (one_no : i ≡ 1 → ⊥) where
      pub given_names : i ≡ 2 → R ≡ given_byte edition E R N marks i
      given_names e = rw e

      module _ (two_no : i ≡ 2 → ⊥) where
        pub given_count : i ≡ 3 → N ≡ given_byte edition E R N marks i
        given_count e = rw e

        pub given_mark : (i ≡ 3 → ⊥) → (r : ℕ) → r ≡ byte_at marks (i - 4) → r ≡ given_byte edition E R N marks i
        given_mark three_no r e = rw (ne_eqb i 0 zero_no, ne_eqb i 1 one_no, ne_eqb i 2 two_no, ne_eqb i 3 three_no) e

-- a record block of a list
module _ (list : List ℕ) (j i r : ℕ) where
  pub listed_record : i < 480 → r ≡ byte_at list (480 * j + i) → r ≡ listed_byte list j i
  listed_record l e = rw (lt-ltb i 480 l) e

  pub listed_gap : 480 ≤ i → i < 508 → 0 ≡ listed_byte list j i
  listed_gap l m = rw (le-ltb i 480 l, lt-ltb i 508 m)

  pub listed_number : 508 ≤ i → i ≡ 508 → j + 1 ≡ listed_byte list j i
  listed_number l e = rw e

  pub listed_count : 508 ≤ i → (i ≡ 508 → ⊥) → r ≡ records_in (whole_records list) j → r ≡ listed_byte list j i
  listed_count l n e = rw (le-ltb i 480 (omega arith), le-ltb i 508 l, ne_eqb i 508 n) e

-- a record block from its last record on
module _ (n : ℕ) (bytes : List ℕ) (i r : ℕ) where
  pub last_record : (start : ℕ) → start ≡ start_of n → i < 508 → r ≡ byte_at bytes (i - start) → r ≡ last_byte n bytes i
  last_record start s l e = rw (lt-ltb i 508 l, ← s) e

  pub last_number : i ≡ 508 → r ≡ block_of n → r ≡ last_byte n bytes i
  last_number e b = rw e b

  pub last_count : 508 ≤ i → (i ≡ 508 → ⊥) → n % 40 + 1 ≡ last_byte n bytes i
  last_count l e = rw (le-ltb i 508 l, ne_eqb i 508 e)
