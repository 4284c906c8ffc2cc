-- A record block and its bytes: a record block that is right has the bytes of the bundle's content, and the bytes of a content are a record
-- block whose bytes beside the records are right, with the content's records in it.
use Prim.Native.Nat.{ℕ, suc, ◌+◌, ◌*◌, ◌/◌, ◌%◌, ◌<◌, ◌≤◌}
use mathlib.Core.Path.{◌≡◌, refl, sym, ◌∙◌}
use mathlib.Core.Bool.{Bool, true, false, not, ◌&&◌}
use mathlib.Core.List.{List, []}
use native.Mathlib.Decide.{dec_lt, ℕ_discrete}
use native.Mathlib.Omega.{arith}
use lib.ListN.{length, drop, length-drop, get_or-eq_default}
use lib.Seq.{get_or-take, get_or-drop, length-take-le, ext_get_or}
use lib.Dec.{eqb, ltb, leb}
use borrow.Author.Tests.{lt-ltb, le-ltb, le-leb, eq-eqb, eqb-true, ne_eqb, not-false, leb-true}
use Rattle.base.specs.Byte.{byte_at}
use Rattle.base.proofs.Lowest.{any_false, any_none}
use Rattle.base.proofs.Flags.{or_false, and_false}
use Rattle.block.specs.Block.{block, block_of, start_of}
use Rattle.bundle.specs.Layout.{records_of, records_in, beside_byte_wrong, beside_wrong, bad_beside, record_bytes}
use Rattle.content.specs.Content.{Content, content_of, count, record_at}
use Rattle.content.specs.Encode.{records_byte}
use Rattle.content.proofs.Tabulated.{length_tabulate, item_tabulate, item_behind}

-- The bytes of a record block by their places.

module _ (c : Content) (j : ℕ) where
  pub place_byte : (i : ℕ) → i < 480 → records_byte c j i ≡ byte_at (record_at c (40 * j + i / 12)) (i % 12)
  unfolding records_byte
  place_byte i l = rw (lt-ltb i 480 l)

  pub gap_byte : (i : ℕ) → 480 ≤ i → i < 508 → records_byte c j i ≡ 0
  unfolding records_byte
  gap_byte i l m = rw (le-ltb i 480 l, lt-ltb i 508 m)

  pub number_byte : records_byte c j 508 ≡ suc j
  unfolding records_byte
  number_byte = refl

  pub count_byte : records_byte c j 509 ≡ records_in (count c) j
  unfolding records_byte
  count_byte = refl

  -- behind the records it is 0
  pub behind_byte : (i : ℕ) → 12 * records_in (count c) j ≤ i → i < 508 → records_byte c j i ≡ 0
  behind_byte i l m = among (dec_lt i 480)
    where
      among : Dec (i < 480) → records_byte c j i ≡ 0
      among (yes k) =
          let none : record_at c (40 * j + i / 12) ≡ [] = get_or-eq_default c.records [] (omega arith) in
          place_byte i k ∙ rw none refl
      among (no k) = gap_byte i (omega arith) m

-- a byte of record n is a byte of the block in which it stands
pub record_byte : (bytes : List ℕ) (n i : ℕ) → i < 12 → byte_at (record_bytes bytes n) i ≡ byte_at (block bytes (block_of n)) (start_of n + i)
record_byte bytes n i l =
    get_or-take 12 (drop (start_of n) (block bytes (block_of n))) i 0 l ∙ get_or-drop (start_of n) (block bytes (block_of n)) i 0

-- What stands beside the records.

-- byte i of what is beside the records is right
record RightBeside (j records i b : ℕ) : Type 0 where
  behind : ((leb (12 * records) i && ltb i 508) && not (eqb b 0)) ≡ false
  number : (eqb i 508 && not (eqb b (j + 1))) ≡ false
  number_of : (eqb i 509 && not (eqb b records)) ≡ false

right_beside : (j records i b : ℕ) → beside_byte_wrong j records i b ≡ false → RightBeside j records i b
right_beside j records i b h =
    let (two, three) = or_false _ _ h in
    let (one, number) = or_false ((leb (12 * records) i && ltb i 508) && not (eqb b 0)) _ two in
    record { behind = one; number = number; number_of = three }

module _ (j records : ℕ) (b : List ℕ) (h : beside_wrong j records b ≡ false) where
  beside_byte : (i : ℕ) → i < 510 → RightBeside j records i (byte_at b i)
  unfolding beside_wrong
  beside_byte i l = right_beside j records i (byte_at b i) (any_false (λ i. beside_byte_wrong j records i (byte_at b i)) 510 h i l)

  behind_zero : (i : ℕ) → 12 * records ≤ i → i < 508 → byte_at b i ≡ 0
  behind_zero i l m =
      let applies : (leb (12 * records) i && ltb i 508) ≡ true = rw (le-leb (12 * records) i l, lt-ltb i 508 m) in
      eqb-true (byte_at b i) 0 (not-false (eqb (byte_at b i) 0) (and_false _ _ (beside_byte i (omega arith)).behind applies))

  number_right : byte_at b 508 ≡ j + 1
  number_right = eqb-true (byte_at b 508) (j + 1) (not-false (eqb (byte_at b 508) (j + 1)) (beside_byte 508 (omega arith)).number)

  count_right : byte_at b 509 ≡ records
  count_right = eqb-true (byte_at b 509) records (not-false (eqb (byte_at b 509) records) (beside_byte 509 (omega arith)).number_of)

-- A right record block has the bytes of the content.

module _ (bytes : List ℕ) (j : ℕ) (beside : bad_beside bytes j ≡ false) where
  abbrev there : ℕ → ℕ
  there i = 40 * j + i / 12

  held_place : (i : ℕ) → i < 480 → there i < records_of bytes → byte_at (block bytes (j + 1)) i ≡ records_byte (content_of bytes) j i
  held_place i l m =
      let number : there i / 40 ≡ j = omega arith in
      let place : 12 * (there i % 40) + i % 12 ≡ i = omega arith in
      let record_there : record_at (content_of bytes) (there i) ≡ record_bytes bytes (there i) =
      item_tabulate (record_bytes bytes) [] (records_of bytes) (there i) m in
      sym (place_byte (content_of bytes) j i l ∙ rw record_there (record_byte bytes (there i) (i % 12) (omega arith) ∙ rw (number, place) refl))

  -- where there is no record
  free_place : (i : ℕ) → i < 480 → records_of bytes ≤ there i → byte_at (block bytes (j + 1)) i ≡ records_byte (content_of bytes) j i
  free_place i l m =
      let none : record_at (content_of bytes) (there i) ≡ [] = item_behind (record_bytes bytes) [] (records_of bytes) (there i) m in
      behind_zero j (records_in (records_of bytes) j) (block bytes (j + 1)) beside i (omega arith) (omega arith)
      ∙ sym (place_byte (content_of bytes) j i l ∙ rw none refl)

  pub block_bytes : (i : ℕ) → i < 510 → byte_at (block bytes (j + 1)) i ≡ records_byte (content_of bytes) j i
  block_bytes i l = among (dec_lt i 480) (dec_lt (there i) (records_of bytes)) (dec_lt i 508) (ℕ_discrete i 508)
    where
      c : Content
      c = content_of bytes

      x : List ℕ
      x = block bytes (j + 1)

      n : ℕ
      n = records_in (records_of bytes) j

      among : Dec (i < 480) → Dec (there i < records_of bytes) → Dec (i < 508) → Dec (i ≡ 508) → byte_at x i ≡ records_byte c j i
      among (yes k) (yes m) _ _ = held_place i k m
      among (yes k) (no m) _ _ = free_place i k (omega arith)
      among (no k) _ (yes m) _ = behind_zero j n x beside i (omega arith) m ∙ sym (gap_byte c j i (omega arith) m)
      among (no k) _ (no m) (yes e) =
          let number : byte_at x 508 ≡ suc j = omega (arith, number_right j n x beside) in
          rw e (number ∙ sym (number_byte c j))
      among (no k) _ (no m) (no e) =
          let last : i ≡ 509 = omega arith in
          let same : n ≡ records_in (count c) j = rw length_tabulate refl in
          rw last (count_right j n x beside ∙ same ∙ sym (count_byte c j))

-- The bytes of a content are a right record block.

and_none : (a x : Bool) → ((a && false) && x) ≡ false
and_none true x = refl
and_none false x = refl

module _ (c : Content) (j : ℕ) (b : List ℕ) (h : (i : ℕ) → i < 510 → byte_at b i ≡ records_byte c j i) where
  beside_byte_right : (i : ℕ) → i < 510 → beside_byte_wrong j (records_in (count c) j) i (byte_at b i) ≡ false
  beside_byte_right i l = among (dec_lt i 508) (ℕ_discrete i 508)
    where
      n : ℕ
      n = records_in (count c) j

      gap : (f : Bool) → leb (12 * n) i ≡ f → i < 508 → beside_byte_wrong j n i (byte_at b i) ≡ false
      gap true e m =
          let zero_here : byte_at b i ≡ 0 = h i l ∙ behind_byte c j i (leb-true (12 * n) i e) m in
          rw (e, ne_eqb i 508 (λ e. omega arith), ne_eqb i 509 (λ e. omega arith), lt-ltb i 508 m, zero_here)
      gap false e m = rw (e, ne_eqb i 508 (λ e. omega arith), ne_eqb i 509 (λ e. omega arith))

      among : Dec (i < 508) → Dec (i ≡ 508) → beside_byte_wrong j n i (byte_at b i) ≡ false
      among (yes m) _ = gap (leb (12 * n) i) refl m
      among (no m) (yes e) =
          let number : byte_at b 508 ≡ j + 1 = omega (arith, h 508 (omega arith) ∙ number_byte c j) in
          rw (e, number, eq-eqb (j + 1) (j + 1) refl, and_none (leb (12 * n) 508) (not (eqb (j + 1) 0)))
      among (no m) (no e) =
          let last : i ≡ 509 = omega arith in
          let number : byte_at b 509 ≡ n = h 509 (omega arith) ∙ count_byte c j in
          rw (last, number, eq-eqb n n refl, and_none (leb (12 * n) 509) (not (eqb n 0)))

  pub beside_right : beside_wrong j (records_in (count c) j) b ≡ false
  unfolding beside_wrong
  beside_right =
      sym (any_none (λ i. beside_byte_wrong j (records_in (count c) j) i (byte_at b i)) 510 510 (omega arith) (omega arith) beside_byte_right)

-- record n of bytes whose record block has the content's bytes
module _ (c : Content) (bytes : List ℕ) (n : ℕ) (twelve : length (record_at c n) ≡ 12)
    (long : 512 ≤ length (block bytes (block_of n)))
    (h : (i : ℕ) → i < 510 → byte_at (block bytes (block_of n)) i ≡ records_byte c (n / 40) i) where
  pub record_back : record_bytes bytes n ≡ record_at c n
  record_back = ext_get_or 0 (record_bytes bytes n) (record_at c n) (size ∙ sym twelve) same
    where
      size : length (record_bytes bytes n) ≡ 12
      size = length-take-le 12 (drop (start_of n) (block bytes (block_of n))) (rw length-drop (omega arith))

      same : (i : ℕ) → i < length (record_bytes bytes n) → byte_at (record_bytes bytes n) i ≡ byte_at (record_at c n) i
      same i l =
          let at = start_of n + i in
          let small : i < 12 = omega (arith, size) in
          let number : 40 * (n / 40) + at / 12 ≡ n = omega arith in
          let place : at % 12 ≡ i = omega arith in
          record_byte bytes n i small ∙ h at (omega arith) ∙ place_byte c (n / 40) at (omega arith) ∙ rw (number, place) refl
