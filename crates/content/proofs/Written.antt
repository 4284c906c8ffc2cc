-- A buffer with a content's bytes at its front: its bytes, and how it comes about block by block.
use Prim.Native.Nat.{ℕ, ◌+◌, ◌-◌, ◌*◌, ◌/◌, ◌%◌, ◌<◌, ◌≤◌}
use mathlib.Core.Path.{◌≡◌, refl, sym, ◌∙◌, ap}
use mathlib.Core.List.{List, ◌++◌}
use native.Mathlib.Decide.{dec_lt, ℕ_discrete}
use native.Mathlib.Omega.{arith}
use lib.ListN.{length, length-append, length-drop, take, drop, get_or-append}
use lib.Seq.{ext_get_or, get_or-append-add, get_or-drop, take_at}
use Rattle.base.specs.Byte.{byte_at}
use Rattle.bundle.specs.Layout.{blocks_for}
use Rattle.content.specs.Content.{Content, count}
use Rattle.content.specs.Encode.{sealed, sealed_block, block_byte, byte_of, size_of, encode, written}
use Rattle.content.specs.InPlace.{replaced}
use Rattle.content.proofs.Part.{part_here, part_before, part_after, part_length}
use Rattle.content.proofs.Sealed.{length_sealed, byte_sealed}
use Rattle.content.proofs.Whole.{length_encode, byte_encode}

-- a byte of a buffer with another block k
module _ (buffer : List ℕ) (k : ℕ) (b : List ℕ) (size : length b ≡ 512) (fits : 512 * k + 512 ≤ length buffer) where
  pub length_replaced : length (replaced buffer k b) ≡ length buffer
  unfolding replaced
  length_replaced = part_length buffer b (512 * k) 512 size fits

  pub replaced_here : (i : ℕ) → i / 512 ≡ k → byte_at (replaced buffer k b) i ≡ byte_at b (i % 512)
  unfolding replaced
  replaced_here i e =
      let at : i - 512 * k ≡ i % 512 = omega arith in
      rw at at (part_here buffer b (512 * k) 512 size fits i (omega arith) (omega arith))

  pub replaced_else : (i : ℕ) → (i / 512 ≡ k → ⊥) → byte_at (replaced buffer k b) i ≡ byte_at buffer i
  unfolding replaced
  replaced_else i e = among (dec_lt i (512 * k))
    where
      among : Dec (i < 512 * k) → byte_at (take (512 * k) buffer ++ (b ++ drop 512 (drop (512 * k) buffer))) i ≡ byte_at buffer i
      among (yes l) = part_before buffer b (512 * k) 512 size fits i l
      among (no l) = part_after buffer b (512 * k) 512 size fits i (omega arith)

-- what a part lent from byte 512 k to byte 512 k + 512 leaves
pub part_replaced : (buffer : List ℕ) (k : ℕ) (b : List ℕ) → take (512 * k) buffer ++ (b ++ drop (512 * k + 512 - 512 * k) (drop (512 * k) buffer)) ≡ replaced buffer k b
unfolding replaced
part_replaced buffer k b =
    let e : 512 * k + 512 - 512 * k ≡ 512 = omega arith in
    ap (λ (n : ℕ). take (512 * k) buffer ++ (b ++ drop n (drop (512 * k) buffer))) e

-- The bytes of a buffer with a content at its front.

module _ (c : Content) (before : List ℕ) where
  pub written_front : (i : ℕ) → i < size_of c → byte_at (written c before) i ≡ byte_of c i
  written_front i l =
      get_or-append (encode c) (drop (size_of c) before) 0 i (omega (arith, length_encode c)) ∙ byte_encode c i l

  pub written_behind : (i : ℕ) → size_of c ≤ i → byte_at (written c before) i ≡ byte_at before i
  written_behind i l =
      let at : length (encode c) + (i - size_of c) ≡ i = omega (arith, length_encode c) in
      let there : size_of c + (i - size_of c) ≡ i = omega arith in
      rw at at (get_or-append-add (encode c) (drop (size_of c) before) (i - size_of c) 0)
      ∙ rw there at (get_or-drop (size_of c) before (i - size_of c) 0)

  pub length_written : size_of c ≤ length before → length (written c before) ≡ length before
  length_written l = rw (length-append, length_encode, length-drop) (omega arith)

  -- the bundle that stands at its front
  pub front_written : take (size_of c) (written c before) ≡ encode c
  front_written = take_at (encode c) (drop (size_of c) before) (size_of c) (length_encode c)

  -- a buffer is this one where its bytes are
  pub is_written : (after : List ℕ) → length after ≡ length before → size_of c ≤ length before
      → ((i : ℕ) → i < size_of c → byte_at after i ≡ byte_of c i) → ((i : ℕ) → size_of c ≤ i → byte_at after i ≡ byte_at before i)
      → after ≡ written c before
  is_written after same room front rest = ext_get_or 0 after (written c before) (same ∙ sym (length_written room)) (λ i l. among i (dec_lt i (size_of c)))
    where
      among : (i : ℕ) → Dec (i < size_of c) → byte_at after i ≡ byte_at (written c before) i
      among i (yes l) = front i l ∙ sym (written_front i l)
      among i (no l) = rest i (omega arith) ∙ sym (written_behind i (omega arith))

-- Block by block: the first k blocks stand there, the rest is as it was.

pub record Begun (c : Content) (before : List ℕ) (k : ℕ) (after : List ℕ) : Type 0 where
  pub same : length after ≡ length before
  pub front : (i : ℕ) → i < 512 * k → byte_at after i ≡ byte_of c i
  pub rest : (i : ℕ) → 512 * k ≤ i → byte_at after i ≡ byte_at before i

module _ (c : Content) (before : List ℕ) where
  pub begun_none : Begun c before 0 before
  begun_none = record { same = refl; front = λ i l. absurd (omega arith); rest = λ i l. refl }

  pub begun_more : (k : ℕ) (middle after : List ℕ) → Begun c before k middle → 512 * k + 512 ≤ length before
      → after ≡ replaced middle k (sealed_block (block_byte c k)) → Begun c before (k + 1) after
  unfolding byte_of
  begun_more k middle after h fits e =
      let room : 512 * k + 512 ≤ length middle = omega (arith, h.same) in
      record {
        same = ap length e ∙ length_replaced middle k (sealed_block (block_byte c k)) (length_sealed (block_byte c k)) room ∙ h.same;
        front = λ i l. ap (λ (x : List ℕ). byte_at x i) e ∙ among room i l (ℕ_discrete (i / 512) k);
        rest = λ i l. ap (λ (x : List ℕ). byte_at x i) e
            ∙ replaced_else middle k (sealed_block (block_byte c k)) (length_sealed (block_byte c k)) room i (λ z. omega arith) ∙ h.rest i (omega arith);
      }
    where
      among : 512 * k + 512 ≤ length middle → (i : ℕ) → i < 512 * (k + 1) → Dec (i / 512 ≡ k)
          → byte_at (replaced middle k (sealed_block (block_byte c k))) i ≡ sealed (block_byte c (i / 512)) (i % 512)
      among room i l (yes z) =
          replaced_here middle k (sealed_block (block_byte c k)) (length_sealed (block_byte c k)) room i z
          ∙ byte_sealed (block_byte c k) (i % 512) (omega arith) ∙ rw z refl
      among room i l (no z) =
          replaced_else middle k (sealed_block (block_byte c k)) (length_sealed (block_byte c k)) room i z ∙ h.front i (omega arith)

  pub begun_done : (after : List ℕ) → size_of c ≤ length before → Begun c before (blocks_for (count c)) after → after ≡ written c before
  begun_done after room h = is_written c before after h.same room h.front h.rest
