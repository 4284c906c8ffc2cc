-- The blocks of a new bundle, one after the other, and the two blocks of an append: what the stores leave is what is promised.
use Prim.Native.Nat.{ℕ, suc, ◌+◌, ◌-◌, ◌*◌, ◌/◌, ◌%◌, ◌<◌, ◌≤◌}
use mathlib.Core.Path.{◌≡◌, refl, sym, ap, ◌∙◌, subst}
use mathlib.Core.List.{List, ◌++◌}
use native.Mathlib.Omega.{arith}
use lib.ListN.{length, take, drop, set}
use Rattle.base.specs.Byte.{byte_at}
use Rattle.base.proofs.Parts.{part_is, found_part}
use Rattle.block.specs.Block.{block, block_of}
use Rattle.bundle.specs.Edition.{edition_for}
use Rattle.bundle.specs.Layout.{blocks_for}
use Rattle.content.specs.Content.{whole_records, content_from}
use Rattle.content.specs.Encode.{sealed_block, written}
use Rattle.content.specs.InPlace.{replaced, sealed_at, Filled, placed, PutBlock, PutLast, given_byte, listed_byte}
use Rattle.content.proofs.Sealed.{length_sealed}
use Rattle.content.proofs.Written.{length_replaced, replaced_here, replaced_else, part_replaced, Begun, begun_none, begun_more, begun_done}
use Rattle.content.proofs.Appending.{put_last}
use Rattle.content.proofs.Listed.{count_given, first_given, block_given}

module _ (E R : ℕ) (marks list before : List ℕ) where
  -- block 0
  fill_begun : (N : ℕ) (first : List ℕ) → N ≡ whole_records list → 512 ≤ length before → first ≡ sealed_block (given_byte (edition_for R) E R N marks)
      → Begun (content_from E R marks list) before (0 + 1) (first ++ drop 512 before)
  unfolding replaced
  fill_begun N first e room h =
      begun_more (content_from E R marks list) before 0 before (first ++ drop 512 before) (begun_none (content_from E R marks list) before) room
      (ap (λ (x : List ℕ). replaced before 0 x) (h ∙ first_given E R marks list N e))

  -- a record block
  fill_more : (j : ℕ) (middle after : List ℕ) → length list % 12 ≡ 0 → 512 * (j + 1) + 512 ≤ length before
      → Begun (content_from E R marks list) before (j + 1) middle → after ≡ replaced middle (j + 1) (sealed_block (listed_byte list j))
      → Begun (content_from E R marks list) before (j + 1 + 1) after
  fill_more j middle after whole room h e =
      let next : j + 1 ≡ suc j = omega arith in
      begun_more (content_from E R marks list) before (j + 1) middle after h room
      (e ∙ ap (λ (x : List ℕ). replaced middle (j + 1) x) (block_given E R marks list whole j ∙ rw next refl))

-- the buffer after block 0 has its length
pub first_size : (before first : List ℕ) (f : ℕ → ℕ) → 512 ≤ length before → first ≡ sealed_block f → length (first ++ drop 512 before) ≡ length before
unfolding replaced
first_size before first f room e = ap (λ (x : List ℕ). length (replaced before 0 x)) e ∙ length_replaced before 0 (sealed_block f) (length_sealed f) room

-- what the loop over the record blocks does to a buffer that has block 0: whatever block 0 is, the first j record blocks stand behind it
abbrev pub Continues : List ℕ → ℕ → List ℕ → List ℕ → Type 0
Continues list j first after =
    (E R : ℕ) (marks before : List ℕ) → Begun (content_from E R marks list) before 1 first → Begun (content_from E R marks list) before (j + 1) after

pub continues_more : (list first middle after : List ℕ) (j : ℕ) → length list % 12 ≡ 0 → 512 * (j + 1) + 512 ≤ length first
    → Continues list j first middle → after ≡ replaced middle (j + 1) (sealed_block (listed_byte list j)) → Continues list (j + 1) first after
continues_more list first middle after j whole room h e E R marks before begun =
    fill_more E R marks list before j middle after whole (omega (arith, begun.same)) (h E R marks before begun) e

-- all blocks
pub fill_done : (E R : ℕ) (marks list before : List ℕ) (N j : ℕ) (first after : List ℕ) → N ≡ whole_records list
    → 512 * blocks_for (whole_records list) ≤ length before → first ≡ sealed_block (given_byte (edition_for R) E R N marks) → j ≡ (whole_records list + 39) / 40
    → Continues list j (first ++ drop 512 before) after → after ≡ written (content_from E R marks list) before
fill_done E R marks list before N j first after n room f e h =
    let blocks : j + 1 ≡ blocks_for (whole_records list) = omega arith in
    let begun = h E R marks before (fill_begun E R marks list before N first n (omega arith) f) in
    begun_done (content_from E R marks list) before after (rw count_given room)
    (rw count_given (subst (λ (k : ℕ). Begun (content_from E R marks list) before k after) blocks begun))

-- a block lent from the middle of a buffer
pub block_put : (buffer : List ℕ) (k : ℕ) (b x : List ℕ) → b ≡ x
    → take (512 * k) buffer ++ (b ++ drop (512 * k + 512 - 512 * k) (drop (512 * k) buffer)) ≡ replaced buffer k x
block_put buffer k b x e = part_replaced buffer k b ∙ ap (replaced buffer k) e

pub block_size : (buffer : List ℕ) (k : ℕ) (f : ℕ → ℕ) → 512 * k + 512 ≤ length buffer → length (replaced buffer k (sealed_block f)) ≡ length buffer
block_size buffer k f room = length_replaced buffer k (sealed_block f) (length_sealed f) room

-- a record block lent from the middle of a buffer, with its last record stored
pub record_put : (buffer : List ℕ) (n : ℕ) (bytes b : List ℕ) → 512 * block_of n + 512 ≤ length buffer
    → Filled (placed n bytes (byte_at (take (512 * block_of n + 512 - 512 * block_of n) (drop (512 * block_of n) buffer)))) 510 b
    → PutBlock n bytes buffer (take (512 * block_of n) buffer ++ (b ++ drop (512 * block_of n + 512 - 512 * block_of n) (drop (512 * block_of n) buffer)))
record_put buffer n bytes b room h =
    subst (PutBlock n bytes buffer) (sym (part_replaced buffer (block_of n) b))
    (record {
      same = length_replaced buffer (block_of n) b h.size room;
      here = λ i l. there i l;
      others = λ i e. replaced_else buffer (block_of n) b h.size room i e;
    })
  where
    there : (i : ℕ) → i < 510 → byte_at (replaced buffer (block_of n) b) (512 * block_of n + i) ≡ placed n bytes (byte_at (block buffer (block_of n))) i
    there i l =
        let number : (512 * block_of n + i) / 512 ≡ block_of n = omega arith in
        let place : (512 * block_of n + i) % 512 ≡ i = omega arith in
        let byte : byte_at (replaced buffer (block_of n) b) (512 * block_of n + i) ≡ byte_at b i =
        rw place at (replaced_here buffer (block_of n) b h.size room (512 * block_of n + i) number) in
        byte ∙ h.bytes i l ∙ ap (λ (x : List ℕ). placed n bytes (byte_at x) i) (part_is buffer (512 * block_of n) 512)

pub sealed_size : (buffer : List ℕ) (k : ℕ) → 512 * k + 512 ≤ length buffer → length (sealed_at buffer k) ≡ length buffer
unfolding sealed_at
sealed_size buffer k room = block_size buffer k (byte_at (block buffer k)) room

-- the check of a block lent from the middle of a buffer
pub seal_put : (buffer : List ℕ) (k : ℕ) (b : List ℕ) → b ≡ sealed_block (byte_at (take (512 * k + 512 - 512 * k) (drop (512 * k) buffer)))
    → take (512 * k) buffer ++ (b ++ drop (512 * k + 512 - 512 * k) (drop (512 * k) buffer)) ≡ sealed_at buffer k
unfolding sealed_at
seal_put buffer k b e =
    block_put buffer k b (sealed_block (byte_at (block buffer k))) (found_part (λ (x : List ℕ). sealed_block (byte_at x)) buffer (512 * k) 512 b e)

-- the steps of an append, one after the other
pub last_put : (before bytes stored once twice : List ℕ) (n : ℕ) → n ≡ byte_at before 3 → PutBlock n bytes before stored
    → once ≡ sealed_at (set stored 3 (n + 1)) (n / 40 + 1) → twice ≡ sealed_at once 0 → PutLast before bytes twice
last_put before bytes stored once twice n e put f g = rw (g, f) (put_last before bytes stored n e put)
