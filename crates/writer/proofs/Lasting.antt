-- What the promises come to. The bundle that was written is accepted, and holds what was given. An append keeps E, R and every credential
-- and puts one more last, in the real bytes of the buffer; it keeps every byte but those of two blocks. And so do any number of appends.
use Rattle.std.specs.Prelude.{Ok}
use Prim.Native.Nat.{ℕ, ◌/◌, ◌≤◌}
use mathlib.Core.Path.{◌≡◌, refl, sym, ap, ◌∙◌}
use mathlib.Core.List.{List, [], ◌∷◌, ◌++◌, map, map-append, append-nil, append_assoc}
use native.Mathlib.Omega.{arith}
use lib.ListN.{length, take}
use Rattle.rt0.specs.Credential.{Credential}
use Rattle.base.specs.Byte.{byte_at}
use Rattle.base.specs.Refusals.{Row, AllNumbered, Clear, refused, passed}
use Rattle.base.proofs.Refusals.{due_number}
use Rattle.block.specs.Block.{block_of}
use Rattle.records.specs.Bytes.{credential_in}
use Rattle.bundle.specs.declared.read.Sizes.{Sizes}
use Rattle.bundle.specs.Layout.{longest_bundle, sizes_in}
use Rattle.bundle.specs.Rows.{Accepts}
use Rattle.bundle.specs.Access.{mark_of}
use Rattle.bundle.specs.Held.{held}
use Rattle.content.specs.Content.{Content, ValidContent, content_of, content_from, mark_in, count}
use Rattle.content.specs.Encode.{size_of, encode, written}
use Rattle.content.proofs.Whole.{Small, count_said, sizes_for, read_back, marks_back, held_content, held_back}
use Rattle.content.proofs.Written.{written_behind, length_written, front_written}
use Rattle.content.proofs.Appending.{others_stay}
use Rattle.writer.specs.Rows.{write_rows, front_records, append_rows}
use Rattle.writer.specs.Promise.{Leaves, Writes, longer, Appends}
use Rattle.writer.specs.Appended.{Appended, no_more, one_more}
use Rattle.writer.proofs.Tables.{write_numbers, append_numbers}
use Rattle.writer.proofs.Kept.{write_clear, AppendClear, append_clear, starts, longer_size, longer_valid}

-- where a length is answered, no row applies and the buffer has the content at its front
module _ (rows : List Row) (numbers : AllNumbered rows) (c : Content) (before after : List ℕ) (m : ℕ) where
  done : Leaves rows c before (Ok m) after → Clear rows × (m ≡ size_of c) × (after ≡ written c before)
  done (refused d _) = absurd (omega (arith, due_number rows numbers 0 0 d))
  done (passed _ _ clear (e, w)) = (clear, e, w)

  front_done : Leaves rows c before (Ok m) after → take m after ≡ encode c
  front_done h = let (_, e, w) = done h in rw (e, w) (front_written c before)

-- A new bundle.

module _ (E R : ℕ) (marks list before after : List ℕ) (m : ℕ) (h : Writes E R marks list before (Ok m) after) where
  abbrev given : Content
  given = content_from E R marks list

  pub write_valid : ValidContent given
  write_valid =
      (write_clear E R marks list (length before)
      (done (write_rows E R marks list (length before)) (write_numbers E R marks list (length before)) given before after m h).0).valid

  -- the bundle that stands there is the encoding of what was given
  pub write_front : take m after ≡ encode given
  write_front = front_done (write_rows E R marks list (length before)) (write_numbers E R marks list (length before)) given before after m h

  -- and no longer than any bundle
  pub write_size : m ≤ longest_bundle
  write_size =
      let (_, e, _) = done (write_rows E R marks list (length before)) (write_numbers E R marks list (length before)) given before after m h in
      omega (arith, e, write_valid.records_most)

  -- the reader accepts it, with E, R and N; its marks and its credentials are those given
  pub write_read : Accepts (take m after) (sizes_for given)
  write_read = rw write_front (read_back given write_valid)

  pub write_marks : (A : ℕ) → mark_of (take m after) A ≡ mark_in given A
  write_marks A = rw write_front (marks_back given write_valid A)

  pub write_held : held (take m after) ≡ map credential_in given.records
  write_held = rw write_front (held_back given write_valid)

-- One record more.

module _ (before : List ℕ) (n : ℕ) (bytes after : List ℕ) (m : ℕ) (h : Appends before n bytes (Ok m) after) where
  abbrev old : List ℕ
  old = take n before

  abbrev more : Content
  more = longer before n bytes

  clear : AppendClear before n bytes
  clear = append_clear before n bytes (done (append_rows before n bytes) (append_numbers before n bytes) more before after m h).0

  its : (m ≡ size_of more) × (after ≡ written more before)
  its = let (_, e, w) = done (append_rows before n bytes) (append_numbers before n bytes) more before after m h in (e, w)

  -- what stood there was a bundle
  pub append_before : Accepts old (sizes_in old)
  append_before = clear.accepts

  -- what stands there is the encoding of its content with the record put last
  pub append_front : take m after ≡ encode more
  append_front = front_done (append_rows before n bytes) (append_numbers before n bytes) more before after m h

  pub append_size : m ≤ longest_bundle
  append_size = omega (arith, its.0, (longer_valid before n bytes clear).records_most)

  -- the reader accepts it, with the same E and R
  pub append_read : Accepts (take m after) (sizes_for more)
  append_read = rw append_front (read_back more (longer_valid before n bytes clear))

  -- its credentials are those held before, and the record's
  pub append_held : held (take m after) ≡ held old ++ (credential_in bytes ∷ [])
  append_held =
      ap held append_front ∙ held_back more (longer_valid before n bytes clear) ∙ map-append credential_in (content_of old).records (bytes ∷ [])
      ∙ ap (λ (l : List Credential). l ++ (credential_in bytes ∷ [])) (sym (held_content old))

  -- the buffer has its length, and every byte past the bundle is as it was
  pub append_length : length after ≡ length before
  append_length = ap length its.1 ∙ length_written more before (omega (arith, longer_size before n bytes clear, clear.room))

  pub append_past : (i : ℕ) → m ≤ i → byte_at after i ≡ byte_at before i
  append_past i l = ap (λ (x : List ℕ). byte_at x i) its.1 ∙ written_behind more before i (omega (arith, its.0))

  -- and so is every byte of a block that is neither block 0 nor the record's
  pub append_others : Small before → (i : ℕ) → (i / 512 ≡ 0 → ⊥) → (i / 512 ≡ block_of (front_records before n) → ⊥) → byte_at after i ≡ byte_at before i
  append_others small i z e =
      let many : count (content_of old) ≡ front_records before n = count_said old (sizes_in old) clear.accepts in
      ap (λ (x : List ℕ). byte_at x i) its.1
      ∙ others_stay (content_of old) bytes before (omega (arith, clear.few)) clear.twelve (starts before n bytes clear small) i z (rw many e)

-- Any number of appends, one after the other.

-- a bundle that has grown from another: accepted, with the same E and R, and with these credentials behind the others
pub record Grown (old new : List ℕ) (s : Sizes) (ks : List Credential) : Type 0 where
  pub sizes : Sizes
  pub accepts : Accepts new sizes
  pub entities : s.entities ≡ sizes.entities
  pub names : s.names ≡ sizes.names
  pub held_more : held new ≡ held old ++ ks

pub appended_grown : (before : List ℕ) (n : ℕ) {after : List ℕ} {m : ℕ} {ks : List Credential} (s : Sizes) → Accepts (take n before) s
    → Appended before n after m ks → Grown (take n before) (take m after) s ks
appended_grown before n s a no_more = record { sizes = s; accepts = a; entities = refl; names = refl; held_more = sym (append-nil _) }
appended_grown before n s a (one_more {middle} {after} {k} {m} {ks} bytes earlier h) =
    let g = appended_grown before n s a earlier in
    let same : g.sizes ≡ sizes_in (take k middle) = g.accepts.said in
    record {
      sizes = sizes_for (longer middle k bytes);
      accepts = append_read middle k bytes after m h;
      entities = g.entities ∙ ap (λ (t : Sizes). t.entities) same;
      names = g.names ∙ ap (λ (t : Sizes). t.names) same;
      held_more =
          append_held middle k bytes after m h ∙ ap (λ (l : List Credential). l ++ (credential_in bytes ∷ [])) g.held_more
          ∙ append_assoc (held (take n before)) ks (credential_in bytes ∷ []);
    }
