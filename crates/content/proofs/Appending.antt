-- One record put last changes byte 3 of block 0, one record block from the record's place on, and the checks of these two; every other byte
-- of the bundle is as it was. So a buffer that starts with a content's bytes has, with these two blocks replaced, those of the longer one.
use Prim.Native.Nat.{ℕ, zero, suc, ◌+◌, ◌-◌, ◌*◌, ◌/◌, ◌%◌, ◌<◌, ◌≤◌}
use mathlib.Core.Path.{◌≡◌, refl, sym, ◌∙◌, ap}
use mathlib.Core.Bool.{false, cond}
use mathlib.Core.List.{List, [], ◌∷◌, ◌++◌, map-append}
use native.Mathlib.Decide.{dec_lt, ℕ_discrete}
use native.Mathlib.Omega.{arith}
use lib.ListN.{length, set, length-append, length-set, get_or-append, get_or-eq_default}
use lib.Seq.{get_or-append_seam, get_or-set_same, get_or-set_other}
use lib.Dec.{ltb}
use borrow.Author.Tests.{lt-ltb, le-ltb}
use Rattle.base.specs.Byte.{byte_at}
use Rattle.block.specs.Block.{block, block_of, start_of}
use Rattle.records.specs.Bytes.{credential_in}
use Rattle.records.specs.Mistake.{record_wrong}
use Rattle.bundle.specs.Layout.{records_in}
use Rattle.bundle.specs.Held.{held}
use Rattle.bundle.proofs.Parts.{first_byte_lem}
use Rattle.content.specs.Content.{Content, ValidContent, most_records, count, record_at, added}
use Rattle.content.specs.Encode.{first_byte, records_byte, block_byte, sealed, byte_of, size_of, encode, written}
use Rattle.content.specs.InPlace.{sealed_at, last_byte, placed, PutBlock, StartsWith, PutLast}
use Rattle.content.proofs.Tabulated.{block_byte_lem}
use Rattle.content.proofs.Sealed.{sealed_below, sealed_same, length_sealed, byte_sealed}
use Rattle.content.proofs.RecordBlock.{place_byte, gap_byte, number_byte, count_byte}
use Rattle.content.proofs.Whole.{held_back}
use Rattle.content.proofs.Written.{length_replaced, replaced_here, replaced_else, is_written, written_front, written_behind}

module _ (c : Content) (bytes : List ℕ) where
  abbrev more : Content
  more = added c bytes

  pub count_added : count more ≡ suc (count c)
  count_added = rw length-append (omega arith)

  -- the records before it, and itself
  record_before : (n : ℕ) → n < count c → record_at more n ≡ record_at c n
  record_before n l = get_or-append c.records (bytes ∷ []) [] n l

  record_last : record_at more (count c) ≡ bytes
  record_last = get_or-append_seam c.records bytes [] []

  -- block 0
  first_added : (i : ℕ) → (i ≡ 3 → ⊥) → first_byte c i ≡ first_byte more i
  first_added zero e = refl
  first_added (suc zero) e = refl
  first_added (suc (suc zero)) e = refl
  first_added (suc (suc (suc zero))) e = absurd (e refl)
  first_added (suc (suc (suc (suc i)))) e = refl

  -- a block whose places are all held
  full_added : (j : ℕ) → 40 * j + 40 ≤ count c → (i : ℕ) → i < 510 → records_byte more j i ≡ records_byte c j i
  unfolding records_byte
  full_added j l i m = among (dec_lt i 480)
    where
      same : records_in (count more) j ≡ records_in (count c) j
      same = rw count_added (omega arith)

      among : Dec (i < 480) → records_byte more j i ≡ records_byte c j i
      among (yes k) = rw (lt-ltb i 480 k, record_before (40 * j + i / 12) (omega arith)) refl
      among (no k) = rw (le-ltb i 480 (omega arith), same) refl

  -- the block of the record
  module _ (twelve : length bytes ≡ 12) where
    abbrev start : ℕ
    start = start_of (count c)

    abbrev number : ℕ
    number = count c / 40

    -- from its place on
    last_added : (i : ℕ) → start ≤ i → i < 510 → records_byte more number i ≡ last_byte (count c) bytes i
    last_added i l m = among (dec_lt i 480) (dec_lt i (start + 12)) (dec_lt i 508) (ℕ_discrete i 508)
      where
        nothing : start + 12 ≤ i → 0 ≡ byte_at bytes (i - start)
        nothing k = sym (get_or-eq_default bytes 0 (omega arith))

        among : Dec (i < 480) → Dec (i < start + 12) → Dec (i < 508) → Dec (i ≡ 508) → records_byte more number i ≡ last_byte (count c) bytes i
        among (yes k) (yes here) _ _ =
            let at : 40 * number + i / 12 ≡ count c = omega arith in
            let byte : i % 12 ≡ i - start = omega arith in
            rw (lt-ltb i 508 (omega arith)) (place_byte more number i k ∙ rw (at, byte, record_last) refl)
        among (yes k) (no far) _ _ =
            let none : record_at more (40 * number + i / 12) ≡ [] = get_or-eq_default more.records [] (omega (arith, count_added)) in
            rw (lt-ltb i 508 (omega arith)) (place_byte more number i k ∙ rw none (nothing (omega arith)))
        among (no k) _ (yes n) _ = rw (lt-ltb i 508 n) (gap_byte more number i (omega arith) n ∙ nothing (omega arith))
        among (no k) _ (no n) (yes e) =
            let next : suc number ≡ block_of (count c) = omega arith in
            rw e (number_byte more number ∙ next)
        among (no k) _ (no n) (no e) =
            let last : i ≡ 509 = omega arith in
            let many : records_in (count more) number ≡ count c % 40 + 1 = rw count_added (omega arith) in
            rw last (count_byte more number ∙ many)

    pub block_added : (f : ℕ → ℕ) → ((i : ℕ) → i < start → f i ≡ records_byte c number i)
        → (i : ℕ) → i < 510 → placed (count c) bytes f i ≡ records_byte more number i
    unfolding placed
    block_added f same i l = among (dec_lt i start)
      where
        among : Dec (i < start) → cond (ltb i start) (f i) (last_byte (count c) bytes i) ≡ records_byte more number i
        among (yes k) =
            rw (lt-ltb i start k)
            (same i k ∙ place_byte c number i (omega arith)
            ∙ sym (place_byte more number i (omega arith) ∙ ap (λ (r : List ℕ). byte_at r (i % 12)) (record_before (40 * number + i / 12) (omega arith))))
        among (no k) = rw (le-ltb i start (omega arith)) (sym (last_added i (omega arith) l))

  -- a content with a right record more is valid
  pub valid_added : ValidContent c → count c < most_records → length bytes ≡ 12 → record_wrong c.entities c.names bytes ≡ false → ValidContent more
  valid_added v few twelve right =
      record {
        some_entity = v.some_entity;
        entities_most = v.entities_most;
        some_name = v.some_name;
        names_most = v.names_most;
        right_marks = v.right_marks;
        records_most = omega (arith, count_added);
        twelve = λ n l. each (λ r. length r ≡ 12) v.twelve twelve n (omega (arith, count_added)) (dec_lt n (count c));
        right_records = λ n l. each (λ r. record_wrong c.entities c.names r ≡ false) v.right_records right n (omega (arith, count_added)) (dec_lt n (count c));
      }
    where
      each : (P : List ℕ → Type 0) → ((n : ℕ) → n < count c → P (record_at c n)) → P bytes → (n : ℕ) → n ≤ count c → Dec (n < count c)
          → P (record_at more n)
      each P before last n l (yes k) = rw (record_before n k) (before n k)
      each P before last n l (no k) = let e : n ≡ count c = omega arith in rw (e, record_last) last

  -- its credential stands last among those held
  pub held_added : ValidContent c → ValidContent more → held (encode more) ≡ held (encode c) ++ (credential_in bytes ∷ [])
  held_added v w = held_back more w ∙ map-append credential_in c.records (bytes ∷ []) ∙ sym (ap (λ (l : List _). l ++ (credential_in bytes ∷ [])) (held_back c v))

module _ (c : Content) (bytes buffer : List ℕ) (few : count c < most_records) (twelve : length bytes ≡ 12)
    (starts : StartsWith c buffer) where
  -- the bytes of every block but these two
  stays : (i : ℕ) → i < size_of (added c bytes) → (i / 512 ≡ 0 → ⊥) → (i / 512 ≡ block_of (count c) → ⊥) → byte_at buffer i ≡ byte_of (added c bytes) i
  unfolding byte_of
  stays i l z e =
      let j = i / 512 - 1 in
      let number : i / 512 ≡ suc j = omega arith in
      starts i (omega (arith, count_added c bytes))
      ∙ rw number (sealed_same (records_byte c j) (records_byte (added c bytes) j)
      (λ n m. sym (full_added c bytes j (omega (arith, count_added c bytes)) n m)) (i % 512))

  -- the bytes of blocks other than block 0 and the record block concerned stay
  pub others_stay : (i : ℕ) → (i / 512 ≡ 0 → ⊥) → (i / 512 ≡ block_of (count c) → ⊥)
      → byte_at (written (added c bytes) buffer) i ≡ byte_at buffer i
  others_stay i z e = among (dec_lt i (size_of (added c bytes)))
    where
      among : Dec (i < size_of (added c bytes)) → byte_at (written (added c bytes) buffer) i ≡ byte_at buffer i
      among (yes l) = written_front (added c bytes) buffer i l ∙ sym (stays i l z e)
      among (no l) = written_behind (added c bytes) buffer i (omega arith)

  module _ (room : size_of (added c bytes) ≤ length buffer) where
    abbrev k : ℕ
    k = block_of (count c)

    -- what stood there below a place of the record block
    held_byte : (i : ℕ) → i < start_of (count c) → byte_at (block buffer k) i ≡ records_byte c (count c / 40) i
    unfolding byte_of
    held_byte i l =
        let number : (512 * k + i) / 512 ≡ suc (count c / 40) = omega arith in
        let place : (512 * k + i) % 512 ≡ i = omega arith in
        block_byte_lem buffer k i (omega arith)
        ∙ rw (number, place) at (starts (512 * k + i) (omega arith)) ∙ sealed_below (records_byte c (count c / 40)) i (omega arith)

    first_held : (i : ℕ) → i < 510 → byte_at buffer i ≡ first_byte c i
    unfolding byte_of
    first_held i l =
        let number : i / 512 ≡ 0 = omega arith in
        let place : i % 512 ≡ i = omega arith in
        rw (number, place) at (starts i (omega arith)) ∙ sealed_below (first_byte c) i l

    -- the record block was stored, then the number of records, and then the checks of both
    module _ (stored : List ℕ) (put : PutBlock (count c) bytes buffer stored) where
      abbrev counted : List ℕ
      counted = set stored 3 (count c + 1)

      abbrev once : List ℕ
      once = sealed_at counted k

      abbrev twice : List ℕ
      twice = sealed_at once 0

      counted_size : length counted ≡ length buffer
      counted_size = rw length-set put.same

      counted_else : (i : ℕ) → (i ≡ 3 → ⊥) → byte_at counted i ≡ byte_at stored i
      counted_else i e = get_or-set_other stored 3 i (count c + 1) 0 e

      once_size : length once ≡ length buffer
      unfolding sealed_at
      once_size = length_replaced counted k _ (length_sealed _) (omega (arith, counted_size, count_added c bytes)) ∙ counted_size

      twice_size : length twice ≡ length buffer
      unfolding sealed_at
      twice_size = length_replaced once 0 _ (length_sealed _) (omega (arith, once_size, count_added c bytes)) ∙ once_size

      -- bytes of other blocks
      twice_else : (i : ℕ) → (i / 512 ≡ 0 → ⊥) → (i / 512 ≡ k → ⊥) → byte_at twice i ≡ byte_at buffer i
      unfolding sealed_at
      twice_else i z e =
          replaced_else once 0 _ (length_sealed _) (omega (arith, once_size, count_added c bytes)) i z
          ∙ replaced_else counted k _ (length_sealed _) (omega (arith, counted_size, count_added c bytes)) i e
          ∙ counted_else i (λ three. omega arith) ∙ put.others i e

      -- the record block
      block_is : (i : ℕ) → i < 510 → byte_at (block counted k) i ≡ records_byte (added c bytes) (count c / 40) i
      block_is i l =
          block_byte_lem counted k i (omega arith) ∙ counted_else (512 * k + i) (λ three. omega arith) ∙ put.here i l
          ∙ block_added c bytes twelve (byte_at (block buffer k)) held_byte i l

      -- block 0
      first_is : (i : ℕ) → i < 510 → byte_at (block once 0) i ≡ first_byte (added c bytes) i
      unfolding sealed_at
      first_is i l =
          first_byte_lem once i (omega arith)
          ∙ replaced_else counted k _ (length_sealed _) (omega (arith, counted_size, count_added c bytes)) i (λ e. omega arith) ∙ among (ℕ_discrete i 3)
        where
          among : Dec (i ≡ 3) → byte_at counted i ≡ first_byte (added c bytes) i
          among (yes e) =
              let next : count c + 1 ≡ count (added c bytes) = omega (arith, count_added c bytes) in
              rw e (get_or-set_same stored 3 (count c + 1) 0 (omega (arith, put.same)) ∙ next)
          among (no e) = counted_else i e ∙ put.others i (λ z. omega arith) ∙ first_held i l ∙ first_added c bytes i e

      pub appended : twice ≡ written (added c bytes) buffer
      unfolding byte_of sealed_at
      appended = is_written (added c bytes) buffer twice twice_size room
          (λ i l. among i l (ℕ_discrete (i / 512) 0) (ℕ_discrete (i / 512) k))
          (λ i l. twice_else i (λ e. omega (arith, count_added c bytes)) (λ e. omega (arith, count_added c bytes)))
        where
          among : (i : ℕ) → i < size_of (added c bytes) → Dec (i / 512 ≡ 0) → Dec (i / 512 ≡ k)
              → byte_at twice i ≡ sealed (block_byte (added c bytes) (i / 512)) (i % 512)
          among i l (yes e) _ =
              replaced_here once 0 _ (length_sealed _) (omega (arith, once_size, count_added c bytes)) i e
              ∙ byte_sealed (byte_at (block once 0)) (i % 512) (omega arith)
              ∙ sealed_same (byte_at (block once 0)) (first_byte (added c bytes)) first_is (i % 512) ∙ rw e refl
          among i l (no z) (yes e) =
              let next : i / 512 ≡ suc (count c / 40) = omega arith in
              replaced_else once 0 _ (length_sealed _) (omega (arith, once_size, count_added c bytes)) i z
              ∙ replaced_here counted k _ (length_sealed _) (omega (arith, counted_size, count_added c bytes)) i e
              ∙ byte_sealed (byte_at (block counted k)) (i % 512) (omega arith)
              ∙ sealed_same (byte_at (block counted k)) (records_byte (added c bytes) (count c / 40)) block_is (i % 512) ∙ rw next refl
          among i l (no z) (no e) = twice_else i z e ∙ stays i l z e

-- what the four steps do to a buffer, whatever content it starts with
pub put_last : (before bytes stored : List ℕ) (n : ℕ) → n ≡ byte_at before 3 → PutBlock n bytes before stored
    → PutLast before bytes (sealed_at (sealed_at (set stored 3 (n + 1)) (block_of n)) 0)
unfolding byte_of
put_last before bytes stored n e put c few twelve starts room =
    let same : n ≡ count c = e ∙ starts 3 (omega arith) ∙ sealed_below (first_byte c) 3 (omega arith) in
    rw same (appended c bytes before few twelve starts room stored (rw same at put))
