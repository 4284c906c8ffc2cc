-- Block 0 and its bytes: a block 0 that is right has the bytes of its content, and the bytes of a valid content are a block 0 that is right,
-- which says the content's marks.
use Prim.Native.Nat.{ℕ, zero, suc, ◌+◌, ◌-◌, ◌<◌, ◌≤◌}
use mathlib.Core.Path.{◌≡◌, refl, sym, ◌∙◌, ap}
use mathlib.Core.Bool.{Bool, false, not, ◌&&◌}
use mathlib.Core.Logic.{◌⊎◌, inl, inr}
use mathlib.Core.List.{List}
use native.Mathlib.Decide.{dec_lt}
use native.Mathlib.Omega.{arith}
use lib.Dec.{eqb}
use borrow.Author.Tests.{lt-ltb, le-ltb, le-leb, lt-leb, ne_eqb, eq-eqb}
use Rattle.base.specs.Byte.{byte_at}
use Rattle.base.proofs.Lowest.{Missed, any_none}
use Rattle.base.proofs.Flags.{inside_flag, above_flag}
use Rattle.block.specs.Block.{block}
use Rattle.bundle.specs.Edition.{most_names, edition_for}
use Rattle.bundle.specs.Layout.{first_byte_wrong, entities_of, names_of, first_wrong, records_of, record_bytes}
use Rattle.bundle.specs.Access.{mark_of}
use Rattle.bundle.proofs.FirstBlock.{edition_right, entities_right, mark_right, behind_right}
use Rattle.content.specs.Content.{Content, content_of, ValidContent, count, mark_in}
use Rattle.content.specs.Encode.{edition_of, first_byte}
use Rattle.content.proofs.Tabulated.{length_tabulate, item_tabulate, item_behind}
use Rattle.content.proofs.Marks.{RightMarks, right_marks}

module _ (bytes : List ℕ) (h : first_wrong (block bytes 0) ≡ false) where
  -- the marks of its content are right
  pub content_marks : RightMarks (entities_of bytes) (content_of bytes).marks
  content_marks =
      record {
        many = length_tabulate (λ i. byte_at bytes (4 + i)) 32;
        there = λ i l m. rw (item_tabulate (λ i. byte_at bytes (4 + i)) 0 32 i m) (mark_right bytes h (4 + i) (omega arith) (omega arith));
        others = λ i l. other i l (dec_lt i 32);
      }
    where
      other : (i : ℕ) → entities_of bytes ≤ i → Dec (i < 32) → byte_at (content_of bytes).marks i ≡ 0
      other i l (yes m) =
          item_tabulate (λ i. byte_at bytes (4 + i)) 0 32 i m ∙ behind_right bytes h (4 + i) (omega arith) (omega arith)
      other i l (no m) = item_behind (λ i. byte_at bytes (4 + i)) 0 32 i (omega arith)

  pub first_bytes : (i : ℕ) → i < 510 → byte_at bytes i ≡ first_byte (content_of bytes) i
  first_bytes zero l = edition_right bytes h
  first_bytes (suc zero) l = refl
  first_bytes (suc (suc zero)) l = refl
  first_bytes (suc (suc (suc zero))) l = sym (length_tabulate (record_bytes bytes) (records_of bytes))
  first_bytes (suc (suc (suc (suc i)))) l = among (dec_lt i 32)
    where
      here : byte_at bytes (4 + i) ≡ byte_at bytes (suc (suc (suc (suc i))))
      here = ap (byte_at bytes) (omega arith)

      among : Dec (i < 32) → byte_at bytes (suc (suc (suc (suc i)))) ≡ byte_at (content_of bytes).marks i
      among (yes m) = sym here ∙ sym (item_tabulate (λ i. byte_at bytes (4 + i)) 0 32 i m)
      among (no m) =
          behind_right bytes h (suc (suc (suc (suc i)))) (omega (arith, entities_right bytes h)) l
          ∙ sym (item_behind (λ i. byte_at bytes (4 + i)) 0 32 i (omega arith))

-- a byte behind N is right where it is a mark up to 3 + E, and 0 behind
mark_byte : (wanted E i x : ℕ) → 4 ≤ i → (i ≤ 3 + E → (x ≡ 1) ⊎ (x ≡ 2)) → (3 + E < i → x ≡ 0) → first_byte_wrong wanted E i x ≡ false
mark_byte wanted E i x l mark behind = among (dec_lt (3 + E) i)
  where
    start : (k : ℕ) → k < 4 → eqb i k ≡ false
    start k s = ne_eqb i k (λ e. omega arith)

    one : (x ≡ 1) ⊎ (x ≡ 2) → (not (eqb x 1) && not (eqb x 2)) ≡ false
    one (inl e) = rw e
    one (inr e) = rw e

    among : Dec (3 + E < i) → first_byte_wrong wanted E i x ≡ false
    among (yes k) =
        rw (
          start 0 (omega arith),
          start 1 (omega arith),
          start 2 (omega arith),
          start 3 (omega arith),
          le-leb 4 i l,
          lt-leb i (3 + E) k,
          lt-ltb (3 + E) i k,
          behind k,
        )
    among (no k) =
        let most : i ≤ 3 + E = omega arith in
        rw (
          start 0 (omega arith),
          start 1 (omega arith),
          start 2 (omega arith),
          start 3 (omega arith),
          le-leb 4 i l,
          le-leb i (3 + E) most,
          le-ltb (3 + E) i most,
          one (mark most),
        )

-- the bytes of a valid content are a right block 0
module _ (c : Content) (v : ValidContent c) (b : List ℕ) (h : (i : ℕ) → i < 510 → byte_at b i ≡ first_byte c i) where
  byte_right : (i : ℕ) → i < 510 → first_byte_wrong (edition_of c) c.entities i (first_byte c i) ≡ false
  byte_right zero l = rw (eq-eqb (edition_of c) (edition_of c) refl)
  byte_right (suc zero) l = rw (inside_flag 32 c.entities v.some_entity v.entities_most)
  byte_right (suc (suc zero)) l = rw (inside_flag most_names c.names v.some_name v.names_most)
  byte_right (suc (suc (suc zero))) l = rw (le-ltb 240 (count c) v.records_most)
  byte_right (suc (suc (suc (suc i)))) l =
      let marks = right_marks c.entities c.marks v.right_marks in
      mark_byte (edition_of c) c.entities (suc (suc (suc (suc i)))) (byte_at c.marks i) (omega arith)
      (λ m. marks.there i (omega arith) (omega (arith, v.entities_most)))
      (λ m. marks.others i (omega arith))

  pub first_right : first_wrong b ≡ false
  unfolding first_wrong
  first_right = sym (any_none wrong 510 510 (omega arith) (omega arith) missed)
    where
      wrong : ℕ → Bool
      wrong i = first_byte_wrong (edition_for (names_of b)) (entities_of b) i (byte_at b i)

      missed : Missed wrong 510
      missed i l = rw (h 1 (omega arith), h 2 (omega arith), h i l) (byte_right i l)

-- the mark of a shelf of bytes is the content's where the mark bytes are
module _ (c : Content) (b : List ℕ) (h : (i : ℕ) → i < 32 → byte_at b (4 + i) ≡ byte_at c.marks i) where
  pub mark_back : (A : ℕ) → mark_of b A ≡ mark_in c A
  mark_back A = among (dec_lt A 1) (dec_lt 32 A)
    where
      among : Dec (A < 1) → Dec (32 < A) → mark_of b A ≡ mark_in c A
      among (yes l) _ = let z : A ≡ 0 = omega arith in rw z
      among (no l) (yes m) = rw (above_flag 32 A m)
      among (no l) (no m) =
          let at : 3 + A ≡ 4 + (A - 1) = omega arith in
          rw (inside_flag 32 A (omega arith) (omega arith), at, h (A - 1) (omega arith))
