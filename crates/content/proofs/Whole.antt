-- A content and its bytes are inverse, both ways. Reading back: the reader accepts the bytes of every valid content, with its E, R, N, its
-- marks, its records and so its credentials. One encoding: accepted bytes are those of their own content, which is valid; so two accepted
-- bundles with the same content have the same bytes.
use Prim.Native.Nat.{ℕ, zero, suc, ◌+◌, ◌-◌, ◌*◌, ◌/◌, ◌%◌, ◌<◌, ◌≤◌}
use mathlib.Core.Path.{◌≡◌, refl, sym, ◌∙◌, ap}
use mathlib.Core.Bool.{false}
use mathlib.Core.List.{List, [], map, map-append}
use native.Mathlib.Omega.{arith}
use lib.ListN.{length, drop, length-drop, length-take}
use lib.Seq.{length-take-le}
use borrow.Author.Tests.{ne_eqb, le-ltb, eq-eqb}
use Rattle.base.specs.Byte.{byte_at}
use Rattle.block.specs.Block.{block, block_of, start_of}
use Rattle.records.specs.Bytes.{credential_in}
use Rattle.bundle.specs.declared.read.Sizes.{Sizes}
use Rattle.bundle.specs.Layout.{length_wrong, blocks, entities_of, records_of, sizes_in, blocks_for, record_bytes}
use Rattle.bundle.specs.Rows.{Accepts}
use Rattle.bundle.specs.Access.{mark_of}
use Rattle.bundle.specs.Held.{credentials, held}
use Rattle.bundle.proofs.Passed.{Passed, clear_passed, passed_clear}
use Rattle.bundle.proofs.Parts.{first_byte_lem}
use Rattle.bundle.proofs.Accepted.{accepted_contents}
use Rattle.content.specs.Content.{Content, ValidContent, content_of, count, record_at, mark_in, tabulate}
use Rattle.content.specs.Encode.{first_byte, records_byte, block_byte, sealed, byte_of, size_of, encode}
use Rattle.content.proofs.Tabulated.{is_tabulate, block_byte_lem, length_tabulate, item_tabulate}
use Rattle.content.proofs.Sealed.{right_sealed, sealed_right, sealed_below}
use Rattle.content.proofs.Marks.{right_marks, marks_right}
use Rattle.content.proofs.First.{content_marks, first_bytes, first_right, mark_back}
use Rattle.content.proofs.RecordBlock.{block_bytes, beside_right, record_back}

-- every item of a list is a byte
abbrev pub Small : List ℕ → Type 0
Small bytes = (i : ℕ) → byte_at bytes i < 256

-- One encoding.

module _ (bytes : List ℕ) (p : Passed bytes) (small : Small bytes) where
  below_check : (k : ℕ) → k < blocks bytes → (i : ℕ) → i < 510 → byte_at (block bytes k) i ≡ block_byte (content_of bytes) k i
  below_check zero l i m = first_byte_lem bytes i (omega arith) ∙ first_bytes bytes p.right_first i m
  below_check (suc j) l i m =
      let next : j + 1 ≡ suc j = omega arith in
      rw next at (block_bytes bytes j (p.right_beside j (omega arith)) i m)

  block_is : (k : ℕ) → k < blocks bytes → (i : ℕ) → i < 512 → byte_at (block bytes k) i ≡ sealed (block_byte (content_of bytes) k) i
  block_is k l i m =
      let low : byte_at (block bytes k) 510 < 256 = rw (block_byte_lem bytes k 510 (omega arith)) (small (512 * k + 510)) in
      right_sealed (block_byte (content_of bytes) k) (block bytes k) (below_check k l) low (p.right_checks k l) i m

  byte_is : (i : ℕ) → i < 512 * blocks bytes → byte_at bytes i ≡ byte_of (content_of bytes) i
  unfolding byte_of
  byte_is i l =
      let whole : 512 * (i / 512) + i % 512 ≡ i = omega arith in
      rw whole at (sym (block_byte_lem bytes (i / 512) (i % 512) (omega arith)) ∙ block_is (i / 512) (omega arith) (i % 512) (omega arith))

module _ (bytes : List ℕ) (s : Sizes) (h : Accepts bytes s) where
  -- what block 0 says is the content's
  pub count_said : count (content_of bytes) ≡ s.records
  count_said = length_tabulate (record_bytes bytes) (records_of bytes) ∙ sym (accepted_contents bytes s h).records

  pub size_said : length bytes ≡ size_of (content_of bytes)
  size_said = rw count_said (accepted_contents bytes s h).size

  -- an accepted bundle is the encoding of its content
  pub one_encoding : Small bytes → bytes ≡ encode (content_of bytes)
  unfolding encode
  one_encoding small =
      let p = clear_passed bytes h.clear in
      is_tabulate (byte_of (content_of bytes)) 0 bytes (size_of (content_of bytes)) size_said
      (λ i l. byte_is bytes p small i (omega (arith, size_said)))

  -- which is valid
  pub valid_content : ValidContent (content_of bytes)
  valid_content =
      let p = clear_passed bytes h.clear in
      let c = accepted_contents bytes s h in
      record {
        some_entity = omega (arith, c.some_entity, c.entities);
        entities_most = omega (arith, c.entities_most, c.entities);
        some_name = omega (arith, c.some_name, c.names);
        names_most = omega (arith, c.names_most, c.names);
        right_marks = marks_right (entities_of bytes) (content_of bytes).marks (content_marks bytes p.right_first);
        records_most = omega (arith, c.records_most, count_said);
        twelve = λ n l. rw (there n (rw length_tabulate at l)) (twelve_bytes n (omega (arith, count_said, c.size)));
        right_records = λ n l. rw (there n (rw length_tabulate at l)) (p.right_records n (rw length_tabulate at l));
      }
    where
      there : (n : ℕ) → n < records_of bytes → record_at (content_of bytes) n ≡ record_bytes bytes n
      there n l = item_tabulate (record_bytes bytes) [] (records_of bytes) n l

      twelve_bytes : (n : ℕ) → 512 * block_of n + 512 ≤ length bytes → length (record_bytes bytes n) ≡ 12
      twelve_bytes n l =
          let long : length (block bytes (block_of n)) ≡ 512 = length-take-le 512 (drop (512 * block_of n) bytes) (rw length-drop (omega arith)) in
          length-take-le 12 (drop (start_of n) (block bytes (block_of n))) (rw length-drop (omega arith))

-- two accepted bundles with the same content have the same bytes
pub same_bytes : (a b : List ℕ) (s t : Sizes) → Small a → Small b → Accepts a s → Accepts b t → content_of a ≡ content_of b → a ≡ b
same_bytes a b s t x y h k same = one_encoding a s h x ∙ ap encode same ∙ sym (one_encoding b t k y)

-- Reading back.

length_fits : (n blocks : ℕ) → n ≡ 512 * blocks → 1 ≤ blocks → blocks ≤ 7 → length_wrong n ≡ false
length_fits n blocks e l m =
    let whole : n % 512 ≡ 0 = omega arith in
    rw (ne_eqb n 0 (λ z. omega arith), le-ltb 3584 n (omega arith), eq-eqb (n % 512) 0 whole)

pub length_encode : (c : Content) → length (encode c) ≡ size_of c
unfolding encode
length_encode c = length_tabulate (byte_of c) (size_of c)

pub byte_encode : (c : Content) (i : ℕ) → i < size_of c → byte_at (encode c) i ≡ byte_of c i
unfolding encode
byte_encode c i l = item_tabulate (byte_of c) 0 (size_of c) i l

-- the sizes that a content has
abbrev pub sizes_for : Content → Sizes
sizes_for c = record { entities = c.entities; names = c.names; records = count c }

module _ (c : Content) where
  blocks_are : blocks (encode c) ≡ blocks_for (count c)
  blocks_are = omega (arith, length_encode c)

  byte_of_lem : (k i : ℕ) → k < blocks_for (count c) → i < 512 → byte_at (block (encode c) k) i ≡ sealed (block_byte c k) i
  unfolding byte_of
  byte_of_lem k i l m =
      let number : (512 * k + i) / 512 ≡ k = omega arith in
      let place : (512 * k + i) % 512 ≡ i = omega arith in
      block_byte_lem (encode c) k i m ∙ byte_encode c (512 * k + i) (omega arith) ∙ rw (number, place) refl

  below : (k i : ℕ) → k < blocks_for (count c) → i < 510 → byte_at (block (encode c) k) i ≡ block_byte c k i
  below k i l m = byte_of_lem k i l (omega arith) ∙ sealed_below (block_byte c k) i m

  first : (i : ℕ) → i < 510 → byte_at (encode c) i ≡ first_byte c i
  first i l = sym (first_byte_lem (encode c) i (omega arith)) ∙ below 0 i (omega arith) l

  later : (j : ℕ) → j < blocks_for (count c) - 1 → (i : ℕ) → i < 510 → byte_at (block (encode c) (j + 1)) i ≡ records_byte c j i
  later j l i m = let next : j + 1 ≡ suc j = omega arith in rw next (below (suc j) i (omega arith) m)

  -- what block 0 says
  pub sizes_back : sizes_in (encode c) ≡ sizes_for c
  sizes_back =
      let E : byte_at (encode c) 1 ≡ c.entities = first 1 (omega arith) in
      let R : byte_at (encode c) 2 ≡ c.names = first 2 (omega arith) in
      let N : byte_at (encode c) 3 ≡ count c = first 3 (omega arith) in
      λ i. record { entities = E i; names = R i; records = N i }

module _ (c : Content) (v : ValidContent c) where
  -- the records that stand in it
  pub records_back : (n : ℕ) → n < count c → record_bytes (encode c) n ≡ record_at c n
  records_back n l =
      let long : 512 ≤ length (block (encode c) (block_of n)) =
      rw (length-take, length-drop) (omega (arith, length_encode c)) in
      record_back c (encode c) n (v.twelve n l) long (λ i m. later c (n / 40) (omega arith) i m)

  passed : Passed (encode c)
  passed =
      let E : byte_at (encode c) 1 ≡ c.entities = first c 1 (omega arith) in
      let R : byte_at (encode c) 2 ≡ c.names = first c 2 (omega arith) in
      let N : byte_at (encode c) 3 ≡ count c = first c 3 (omega arith) in
      record {
        right_length = length_fits (length (encode c)) (blocks_for (count c)) (length_encode c) (omega arith) (omega (arith, v.records_most));
        right_checks = λ k l. sealed_right (block_byte c k) (block (encode c) k) (λ i m. byte_of_lem c k i (omega (arith, blocks_are c)) m);
        right_first = first_right c v (block (encode c) 0) (λ i m. below c 0 i (omega arith) m);
        right_count = rw N (blocks_are c);
        right_beside = λ j l. rw N (beside_right c j (block (encode c) (j + 1)) (later c j (omega (arith, blocks_are c))));
        right_records = λ n l. rw (E, R, records_back n (omega arith)) (v.right_records n (omega arith));
      }

  -- the reader accepts the bytes, with E, R and N
  pub read_back : Accepts (encode c) (sizes_for c)
  read_back = record { clear = passed_clear (encode c) passed; said = sym (sizes_back c) }

  -- the marks
  pub marks_back : (A : ℕ) → mark_of (encode c) A ≡ mark_in c A
  marks_back = mark_back c (encode c) (λ i l. let at : 4 + i ≡ suc (suc (suc (suc i))) = omega arith in rw at (first c (suc (suc (suc (suc i)))) (omega arith)))

  -- the whole content
  pub content_back : content_of (encode c) ≡ c
  content_back =
      let E : byte_at (encode c) 1 ≡ c.entities = first c 1 (omega arith) in
      let R : byte_at (encode c) 2 ≡ c.names = first c 2 (omega arith) in
      let N : byte_at (encode c) 3 ≡ count c = first c 3 (omega arith) in
      let marks : tabulate (λ i. byte_at (encode c) (4 + i)) 32 ≡ c.marks =
      sym (is_tabulate (λ i. byte_at (encode c) (4 + i)) 0 c.marks 32 (right_marks c.entities c.marks v.right_marks).many (λ i l. sym (mark_byte i l))) in
      let records : tabulate (record_bytes (encode c)) (byte_at (encode c) 3) ≡ c.records =
      rw N (sym (is_tabulate (record_bytes (encode c)) [] c.records (count c) refl (λ n l. sym (records_back n l)))) in
      λ i. record { entities = E i; names = R i; marks = marks i; records = records i }
    where
      mark_byte : (i : ℕ) → i < 32 → byte_at (encode c) (4 + i) ≡ byte_at c.marks i
      mark_byte i l = let at : 4 + i ≡ suc (suc (suc (suc i))) = omega arith in rw at (first c (suc (suc (suc (suc i)))) (omega arith))

-- Credentials.

-- the credentials of a bundle are those of its content's records
first_credentials : (bytes : List ℕ) (n : ℕ) → credentials bytes n ≡ map credential_in (tabulate (record_bytes bytes) n)
unfolding credentials tabulate
first_credentials bytes zero = refl
first_credentials bytes (suc n) = rw (map-append, first_credentials bytes n) refl

pub held_content : (bytes : List ℕ) → held bytes ≡ map credential_in (content_of bytes).records
held_content bytes = first_credentials bytes (records_of bytes)

-- those that were written are read back
pub held_back : (c : Content) → ValidContent c → held (encode c) ≡ map credential_in c.records
held_back c v = held_content (encode c) ∙ ap (λ (d : Content). map credential_in d.records) (content_back c v)
