-- What an accepted bundle is: E, R, N, marks and records are what the bytes say, every record is valid over E and R, and the number
-- of blocks fits. The crates above cite these laws and not the definitions' text.
use Rattle.std.specs.Prelude.{Some, None}
use Prim.Native.Nat.{ℕ, zero, suc, ◌+◌, ◌-◌, ◌*◌, ◌≤◌, ◌<◌}
use native.Mathlib.Decide.{dec_lt}
use native.Mathlib.Omega.{arith}
use mathlib.Core.Path.{◌≡◌, refl, ◌∙◌}
use mathlib.Core.Logic.{◌⊎◌, inl, inr}
use mathlib.Core.Option.{some}
use mathlib.Core.List.Memᴰ
use mathlib.Core.List.{List, [], ◌∷◌, ◌++◌}
use borrow.Author.Tests.{le-ltb}
use lib.ListN.{length, length-append, get_elem?}
use Rattle.rt0.specs.Credential.{Credential, Valid, AllValid, IsEntity, ◌∈◌}
use Rattle.rt0.specs.Book.{item}
use Rattle.rt0.specs.Holding.{SoundHolding}
use Rattle.rt0.proofs.Books.{book_numbers}
use Rattle.rt0.proofs.Items.{item_append, item_last}
use Rattle.base.specs.Byte.{byte_at}
use Rattle.base.proofs.Lowest.{Missed}
use Rattle.base.proofs.Flags.{inside_flag, above_flag}
use Rattle.block.specs.Block.{block_of}
use Rattle.records.specs.Bytes.{credential_in}
use Rattle.records.specs.Form.{record_in, credential_of}
use Rattle.records.proofs.ValidRecord.{valid_record, record_is}
use Rattle.bundle.specs.declared.read.Sizes.{Sizes}
use Rattle.bundle.specs.declared.access.Mark.TheVariants.{Present, Absent}
use Rattle.bundle.specs.Edition.{most_names, edition_for}
use Rattle.bundle.specs.Layout.{entities_of, names_of, records_of, blocks_for, record_bytes, bad_record}
use Rattle.bundle.specs.Rows.{Accepts}
use Rattle.bundle.specs.Access.{mark_of, record_of}
use Rattle.bundle.specs.Held.{credentials, held, book_in, holding_in}
use Rattle.bundle.proofs.Stages.{length_right}
use Rattle.bundle.proofs.Passed.{clear_passed}
use Rattle.bundle.proofs.FirstBlock.{edition_right, entities_right, names_right, records_right, mark_right, behind_right}

-- what an accepted bundle holds
pub record Contents (bytes : List ℕ) (s : Sizes) : Type 0 where
  -- byte 0 is the edition of its R, as it is for the writer
  pub edition : byte_at bytes 0 ≡ edition_for s.names
  pub entities : s.entities ≡ byte_at bytes 1
  pub names : s.names ≡ byte_at bytes 2
  pub records : s.records ≡ byte_at bytes 3
  pub some_entity : 1 ≤ s.entities
  pub entities_most : s.entities ≤ 32
  pub some_name : 1 ≤ s.names
  pub names_most : s.names ≤ most_names
  pub records_most : s.records ≤ 240
  pub size : length bytes ≡ 512 * blocks_for s.records
  -- every shelf up to E has a mark, and no other
  pub marked : (A : ℕ) → IsEntity s.entities A → (mark_of bytes A ≡ Some Present) ⊎ (mark_of bytes A ≡ Some Absent)
  pub unmarked : (A : ℕ) → s.entities < A → mark_of bytes A ≡ None
  -- every credential is valid
  pub valid : AllValid s.entities s.names (held bytes)

pub length_credentials : (bytes : List ℕ) (n : ℕ) → length (credentials bytes n) ≡ n
unfolding credentials
length_credentials bytes zero = refl
length_credentials bytes (suc n) = rw (length-append, length_credentials bytes n) (omega arith)

-- credential i, counted from 0, is what record i says
credential_item : (bytes : List ℕ) (n i : ℕ) → i < n
    → get_elem? (credentials bytes n) i ≡ some (credential_in (record_bytes bytes i))
unfolding credentials
credential_item bytes zero i l = absurd (omega arith)
credential_item bytes (suc n) i l = among (dec_lt i n) (credential_item bytes n i)
  where
    earlier : List Credential
    earlier = credentials bytes n

    last : Credential
    last = credential_in (record_bytes bytes n)

    among : Dec (i < n) → (i < n → get_elem? earlier i ≡ some (credential_in (record_bytes bytes i)))
        → get_elem? (earlier ++ (last ∷ [])) i ≡ some (credential_in (record_bytes bytes i))
    among (yes k) before = item_append earlier (last ∷ []) i (rw length_credentials k) ∙ before k
    among (no k) before =
        let here : i ≡ n = omega arith in
        rw here (rw length_credentials at (item_last earlier last))

-- credentials of records that are not wrong are valid
valid_credentials : (bytes : List ℕ) (n : ℕ) → Missed (bad_record bytes) n
    → AllValid (entities_of bytes) (names_of bytes) (credentials bytes n)
unfolding credentials
valid_credentials bytes zero h c m = absurd (Memᴰ.not-nil m)
valid_credentials bytes (suc n) h c m =
    among (Memᴰ.append_cases (credentials bytes n) m) (valid_credentials bytes n (λ j l. h j (omega arith)) c)
  where
    last : Credential
    last = credential_in (record_bytes bytes n)

    among : (c ∈ credentials bytes n) ⊎ (c ∈ (last ∷ [])) → (c ∈ credentials bytes n → Valid (entities_of bytes) (names_of bytes) c)
        → Valid (entities_of bytes) (names_of bytes) c
    among (inl i) before = before i
    among (inr i) before =
        rw (Memᴰ.eq_of_singleton i)
        (valid_record (entities_of bytes) (names_of bytes) (record_bytes bytes n) (h n (omega arith)))

-- the mark of A is what byte 3 + A says
module _ (bytes : List ℕ) (A : ℕ) where
  mark_of_lem : 1 ≤ A → A ≤ 32 → (byte_at bytes (3 + A) ≡ 1) ⊎ (byte_at bytes (3 + A) ≡ 2)
      → (mark_of bytes A ≡ Some Present) ⊎ (mark_of bytes A ≡ Some Absent)
  mark_of_lem l m (inl e) = inl (rw (inside_flag 32 A l m, e))
  mark_of_lem l m (inr e) = inr (rw (inside_flag 32 A l m, e))

  no_mark : 1 ≤ A → (A ≤ 32 → byte_at bytes (3 + A) ≡ 0) → mark_of bytes A ≡ None
  no_mark l h = far (dec_lt 32 A)
    where
      far : Dec (32 < A) → mark_of bytes A ≡ None
      far (yes m) = rw (above_flag 32 A m)
      far (no m) = let k : A ≤ 32 = omega arith in rw (inside_flag 32 A l k, h k)

pub accepted_contents : (bytes : List ℕ) (s : Sizes) → Accepts bytes s → Contents bytes s
accepted_contents bytes s h =
    let p = clear_passed bytes h.clear in
    let (whole, most, size) = length_right (length bytes) p.right_length in
    let (some_entity, entities_most) = entities_right bytes p.right_first in
    let (some_name, names_most) = names_right bytes p.right_first in
    let records_most = records_right bytes p.right_first in
    let E : s.entities ≡ entities_of bytes = cc h.said in
    let R : s.names ≡ names_of bytes = cc h.said in
    let N : s.records ≡ records_of bytes = cc h.said in
    record {
      edition = rw R (edition_right bytes p.right_first);
      entities = E;
      names = R;
      records = N;
      some_entity = omega arith;
      entities_most = omega arith;
      some_name = omega arith;
      names_most = omega arith;
      records_most = omega arith;
      size = rw (N, ← p.right_count) size;
      marked = λ A e. mark_of_lem bytes A e.above (omega arith) (mark_right bytes p.right_first (3 + A) (omega arith) (omega arith));
      unmarked = λ A l. no_mark bytes A (omega arith) (λ m. behind_right bytes p.right_first (3 + A) (omega arith) (omega arith));
      valid = rw (E, R) (valid_credentials bytes (records_of bytes) p.right_records);
    }

-- record number i + 1 where the bundle is long enough
record_of_lem : (bytes : List ℕ) (i : ℕ) → i < 240 → 512 * block_of i + 512 ≤ length bytes → record_of bytes (suc i) ≡ record_in (record_bytes bytes i)
unfolding record_of
record_of_lem bytes i l m =
    let e : suc i - 1 ≡ i = omega arith in
    rw (inside_flag 240 (suc i) (omega arith) l, e, le-ltb (length bytes) (512 * block_of i + 512) m)

module _ (bytes : List ℕ) (s : Sizes) (h : Accepts bytes s) where
  -- record number n is the credential of that number
  pub record_credential : (n : ℕ) → 1 ≤ n → n ≤ s.records → credential_of (record_of bytes n) ≡ book_in bytes n
  record_credential zero l m = absurd (omega arith)
  record_credential (suc i) l m =
      let p = clear_passed bytes h.clear in
      let c = accepted_contents bytes s h in
      let small : i < 240 = omega (arith, c.records_most) in
      let long : 512 * block_of i + 512 ≤ length bytes = omega (arith, c.size) in
      let among : i < records_of bytes = omega (arith, c.records) in
      rw (record_of_lem bytes i small long, credential_item bytes (records_of bytes) i among)
      (record_is (entities_of bytes) (names_of bytes) (record_bytes bytes i) (p.right_records i among))

  -- there is one
  pub record_there : (n : ℕ) → 1 ≤ n → n ≤ s.records → (c : Credential) × (book_in bytes n ≡ some c)
  record_there zero l m = absurd (omega arith)
  record_there (suc i) l m =
      let c = accepted_contents bytes s h in
      (credential_in (record_bytes bytes i), credential_item bytes (records_of bytes) i (omega (arith, c.records)))

  -- what a question on an accepted bundle is asked of is sound
  pub holding_sound : SoundHolding (holding_in bytes)
  holding_sound =
      let c = accepted_contents bytes s h in
      let E : s.entities ≡ entities_of bytes = c.entities in
      let R : s.names ≡ names_of bytes = c.names in
      record {
        valid = rw (← E, ← R) c.valid;
        numbered = rw length_credentials at (book_numbers (held bytes));
        few = omega (arith, c.records, c.records_most);
      }

-- records appended after the last keep the earlier ones as they were
pub records_kept : (bytes more : List ℕ) (N M : ℕ) (ks : List Credential) → credentials more M ≡ credentials bytes N ++ ks
    → (n : ℕ) → n ≤ N → item (credentials more M) n ≡ item (credentials bytes N) n
records_kept bytes more N M ks e zero l = refl
records_kept bytes more N M ks e (suc i) l = rw e (item_append (credentials bytes N) ks i (rw length_credentials l))
