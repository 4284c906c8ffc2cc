-- What stores into a block make of it: bytes stored one after the other, and the check.
use Prim.Native.Nat.{ℕ, ◌+◌, ◌/◌, ◌%◌, ◌<◌, ◌≤◌}
use mathlib.Core.Path.{◌≡◌, refl, sym, ◌∙◌}
use mathlib.Core.List.{List}
use native.Mathlib.Decide.{dec_lt, ℕ_discrete}
use native.Mathlib.Omega.{arith}
use lib.ListN.{length, length-set, set}
use lib.Seq.{get_or-set_same, get_or-set_other}
use borrow.Author.Tests.{lt-ltb, le-ltb}
use Rattle.base.specs.Byte.{byte_at}
use Rattle.block.specs.Block.{check_of, start_of}
use Rattle.content.specs.Encode.{check_by, sealed, sealed_block}
use Rattle.content.specs.InPlace.{Filled, last_byte, placed}
use Rattle.content.proofs.Tabulated.{is_tabulate}
use Rattle.content.proofs.Sealed.{check_by_lem, sealed_below, sealed_low, sealed_high, sealed_block_same}

pub check_small : (b : List ℕ) → check_of b < 65521
unfolding check_of
check_small b = omega arith

-- the check stored into a block
module _ (b : List ℕ) (size : length b ≡ 512) where
  pub seal_stored : (found : ℕ) → found ≡ check_of b → set (set b 510 (found % 256)) 511 (found / 256) ≡ sealed_block (byte_at b)
  unfolding sealed_block
  seal_stored found e = is_tabulate (sealed (byte_at b)) 0 (set (set b 510 (found % 256)) 511 (found / 256)) 512 (rw (length-set, length-set) size) byte
    where
      by : found ≡ check_by (byte_at b)
      by = e ∙ check_by_lem (byte_at b) b (λ i l. refl)

      byte : (i : ℕ) → i < 512 → byte_at (set (set b 510 (found % 256)) 511 (found / 256)) i ≡ sealed (byte_at b) i
      byte i l = among (dec_lt i 510) (ℕ_discrete i 510)
        where
          among : Dec (i < 510) → Dec (i ≡ 510) → byte_at (set (set b 510 (found % 256)) 511 (found / 256)) i ≡ sealed (byte_at b) i
          among (yes k) _ =
              get_or-set_other (set b 510 (found % 256)) 511 i (found / 256) 0 (λ z. omega arith)
              ∙ get_or-set_other b 510 i (found % 256) 0 (λ z. omega arith) ∙ sym (sealed_below (byte_at b) i k)
          among (no k) (yes z) =
              rw z (get_or-set_other (set b 510 (found % 256)) 511 510 (found / 256) 0 (λ y. omega arith)
              ∙ get_or-set_same b 510 (found % 256) 0 (omega arith) ∙ rw by (sym (sealed_low (byte_at b))))
          among (no k) (no z) =
              let last : i ≡ 511 = omega arith in
              rw last (get_or-set_same (set b 510 (found % 256)) 511 (found / 256) 0 (rw length-set (omega arith)) ∙ rw by (sym (sealed_high (byte_at b))))

-- bytes stored one after the other
module _ (f : ℕ → ℕ) where
  pub filled_more : (i x : ℕ) (b : List ℕ) → Filled f i b → i < 510 → x ≡ f i → Filled f (i + 1) (set b i x)
  filled_more i x b h l e = record { size = rw length-set h.size; bytes = λ k m. among k m (ℕ_discrete k i) }
    where
      among : (k : ℕ) → k < i + 1 → Dec (k ≡ i) → byte_at (set b i x) k ≡ f k
      among k m (yes z) = rw z (get_or-set_same b i x 0 (omega (arith, h.size)) ∙ e)
      among k m (no z) = get_or-set_other b i k x 0 z ∙ h.bytes k (omega arith)

  pub filled_sealed : (i : ℕ) (b : List ℕ) → 510 ≤ i → Filled f i b → sealed_block (byte_at b) ≡ sealed_block f
  filled_sealed i b l h = sealed_block_same (byte_at b) f (λ k m. h.bytes k (omega arith))

  pub filled_all : (i : ℕ) (b : List ℕ) → 510 ≤ i → Filled f i b → Filled f 510 b
  filled_all i b l h = record { size = h.size; bytes = λ k m. h.bytes k (omega arith) }

-- a record put last: the bytes before its place are there, and the others are stored
module _ (n : ℕ) (bytes b : List ℕ) where
  pub placed_none : length b ≡ 512 → Filled (placed n bytes (byte_at b)) (start_of n) b
  unfolding placed
  placed_none e = record { size = e; bytes = λ k l. sym (rw (lt-ltb k (start_of n) l)) }

  pub placed_next : (i x : ℕ) → start_of n ≤ i → x ≡ last_byte n bytes i → x ≡ placed n bytes (byte_at b) i
  unfolding placed
  placed_next i x l e = rw (le-ltb i (start_of n) l) e
