-- What is packed of the writer's answer comes back: the number, and below it the place or the length modulo 2 ^ 56. A length fits these bits
-- always, so does the place of an append, and that of a write where the list of records has fewer than 2 ^ 56 bytes: the answer that the result
-- unpacks to then keeps the writer's promise. And two results that keep it are the same number, with the same buffer.
use Rattle.std.specs.Prelude.{Result, Ok, Err}
use Prim.Native.Nat.{ℕ, ◌-◌, ◌%◌, ◌^◌, ◌≤◌, ◌<◌}
use native.Mathlib.Omega.{arith}
use mathlib.Core.Path.{◌≡◌, refl, sym, ap, subst, ◌∙◌}
use mathlib.Core.List.{List}
use lib.ListN.{length}
use borrow.Author.Tests.{ne_eqb}
use Rattle.base.specs.declared.refusal.Refusal.{Refusal}
use Rattle.base.specs.Refused.{refusal_at, number_of}
use Rattle.answers.specs.Pack.{number_in}
use Rattle.writer.specs.Promise.{Writes, Appends}
use Rattle.writer.proofs.Places.{write_number, write_place, append_number, append_place}
use Rattle.writer.proofs.Determined.{writes_equal, appends_equal}
use Rattle.letters.specs.Promise as promise
use Rattle.letters.proofs.Determined as letter
use Rattle.letters.proofs.Places as places
use Rattle.writer.proofs.Lasting.{write_size, append_size}
use Rattle.capi.specs.Written.{below_of, packed_numbers, packed_wrote, below_in, unpacked_wrote, PacksWrote, PackedAnswer, PackedWrite, PackedAppend, PackedReadLines, PackedWriteLines}

-- From the numbers that were packed to the answer.

pub packs_length : (answer : Result ℕ (Refusal ℕ)) (length result : ℕ) → answer ≡ Ok length → (result ≡ packed_numbers 0 length) × (0 < 2 ^ 8) → PacksWrote answer result
packs_length answer length result e (packing, fits) =
    subst (λ (w : Result ℕ (Refusal ℕ)). PacksWrote w result) (sym e) (record { packing = packing; fits = fits })

pub packs_refused : (answer : Result ℕ (Refusal ℕ)) (number place result : ℕ) → answer ≡ Err (refusal_at number place)
    → (result ≡ packed_numbers number place) × (number < 2 ^ 8) → PacksWrote answer result
packs_refused answer number place result e (packing, fits) =
    subst (λ (w : Result ℕ (Refusal ℕ)). PacksWrote w result) (sym e) (record { packing = packing; fits = fits })

-- Both parts come back.

module _ (answer : Result ℕ (Refusal ℕ)) (result : ℕ) (p : PacksWrote answer result) where
  pub number_back : number_in result ≡ number_of answer
  number_back = omega (arith, p.packing, p.fits)

  pub below_back : below_in result ≡ below_of answer % 2 ^ 56
  below_back = omega (arith, p.packing, p.fits)

-- so the answer does where what stands below fits its bits, as a refusal has a number
length_back : (n result : ℕ) → n < 2 ^ 56 → PacksWrote (Ok n) result → unpacked_wrote result ≡ Ok n
length_back n result small p =
    let number : number_in result ≡ 0 = number_back (Ok n) result p in
    let below : below_in result ≡ n = omega (arith, below_back (Ok n) result p) in
    rw (number, below) refl

refusal_back : (n place result : ℕ) → 1 ≤ n → place < 2 ^ 56 → PacksWrote (Err (refusal_at n place)) result → unpacked_wrote result ≡ Err (refusal_at n place)
refusal_back n place result some small p =
    let number : number_in result ≡ n = number_back (Err (refusal_at n place)) result p in
    let below : below_in result ≡ place = omega (arith, below_back (Err (refusal_at n place)) result p) in
    rw (number, below, ne_eqb n 0 (λ z. omega arith)) refl

-- a promise of the answer is then one of what the result unpacks to
module _ (Promised : Result ℕ (Refusal ℕ) → Type 0) (lengths : (m : ℕ) → Promised (Ok m) → m < 2 ^ 56)
    (refusals : (number place : ℕ) → Promised (Err (refusal_at number place)) → (1 ≤ number) × (place < 2 ^ 56)) where
  unpacked_keeps : (answer : Result ℕ (Refusal ℕ)) (result : ℕ) → Promised answer → PacksWrote answer result → Promised (unpacked_wrote result)
  unpacked_keeps (Ok m) result h p = subst Promised (sym (length_back m result (lengths m h) p)) h
  unpacked_keeps (Err why) result h p =
      let (some, small) = refusals why.number why.place h in
      subst Promised (sym (refusal_back why.number why.place result some small p)) h

-- an answer that keeps a promise, packed
pub packed_answer : (Promised : Result ℕ (Refusal ℕ) → Type 0) (answer : Result ℕ (Refusal ℕ)) (result : ℕ) → PacksWrote answer result → Promised answer → PackedAnswer Promised result
packed_answer Promised answer result p h = record { answer = answer; keeps = h; packs = p }

-- two results are the same number where two answers that keep their promises are equal
pub packed_same : (One Two : Result ℕ (Refusal ℕ) → Type 0) (one two : ℕ) (p : PackedAnswer One one) (q : PackedAnswer Two two) → p.answer ≡ q.answer → one ≡ two
packed_same One Two one two p q same = p.packs.packing ∙ ap (λ (w : Result ℕ (Refusal ℕ)). packed_wrote w) same ∙ sym q.packs.packing

-- A write.

module _ (E R : ℕ) (marks list before : List ℕ) where
  pub unpacked_write : (after : List ℕ) (result : ℕ) → length list < 2 ^ 56 → PackedWrite E R marks list before after result
      → Writes E R marks list before (unpacked_wrote result) after
  unpacked_write after result small p =
      unpacked_keeps (λ answer. Writes E R marks list before answer after)
      (λ m h. omega (arith, write_size E R marks list before after m h))
      (λ number place h. (
        write_number E R marks list before after number place h,
        omega (arith, write_place E R marks list before after number place h (2 ^ 56 - 1) (omega arith) (omega arith)),
      ))
      p.answer result p.keeps p.packs

  -- two results are the same number, and leave the same buffer
  pub writes_same : (after other : List ℕ) (one two : ℕ) → PackedWrite E R marks list before after one → PackedWrite E R marks list before other two
      → (one ≡ two) × (after ≡ other)
  writes_same after other one two p q =
      let (same, left) = writes_equal E R marks list before p.answer q.answer after other p.keeps q.keeps in
      (packed_same _ _ one two p q same, left)

-- An append.

module _ (before : List ℕ) (n : ℕ) (bytes : List ℕ) where
  pub unpacked_append : (after : List ℕ) (result : ℕ) → PackedAppend before n bytes after result
      → Appends before n bytes (unpacked_wrote result) after
  unpacked_append after result p =
      unpacked_keeps (λ answer. Appends before n bytes answer after)
      (λ m h. omega (arith, append_size before n bytes after m h))
      (λ number place h. (
        append_number before n bytes after number place h,
        omega (arith, append_place before n bytes after number place h),
      ))
      p.answer result p.keeps p.packs

  pub appends_same : (after other : List ℕ) (one two : ℕ) → PackedAppend before n bytes after one → PackedAppend before n bytes other two
      → (one ≡ two) × (after ≡ other)
  appends_same after other one two p q =
      let (same, left) = appends_equal before n bytes p.answer q.answer after other p.keeps q.keeps in
      (packed_same _ _ one two p q same, left)

-- Letters.

pub unpacked_lines_read : (E R : ℕ) (text before after : List ℕ) (result : ℕ) → PackedReadLines E R text before after result
    → promise.Reads E R text before (unpacked_wrote result) after
unpacked_lines_read E R text before after result p =
    unpacked_keeps (λ answer. promise.Reads E R text before answer after) (λ m h. omega (arith, places.read_length E R text before after m h))
    (λ number place h. let (some, near) = places.read_place E R text before after number place h in (some, omega arith)) p.answer result p.keeps
    p.packs

pub unpacked_lines_written : (E R : ℕ) (list before after : List ℕ) (result : ℕ) → length list < 2 ^ 56 → PackedWriteLines E R list before after result
    → promise.Writes E R list before (unpacked_wrote result) after
unpacked_lines_written E R list before after result small p =
    unpacked_keeps (λ answer. promise.Writes E R list before answer after) (λ m h. omega (arith, places.write_length E R list before after m h))
    (λ number place h. let (some, near) = places.write_place E R list before after number place h in (some, omega arith)) p.answer result p.keeps
    p.packs

pub lines_read_same : (E R : ℕ) (text before after other : List ℕ) (one two : ℕ) → PackedReadLines E R text before after one
    → PackedReadLines E R text before other two → (one ≡ two) × (after ≡ other)
lines_read_same E R text before after other one two p q =
    let (same, left) = letter.reads_equal E R text before p.answer q.answer after other p.keeps q.keeps in
    (packed_same _ _ one two p q same, left)

pub lines_written_same : (E R : ℕ) (list before after other : List ℕ) (one two : ℕ) → PackedWriteLines E R list before after one
    → PackedWriteLines E R list before other two → (one ≡ two) × (after ≡ other)
lines_written_same E R list before after other one two p q =
    let (same, left) = letter.writes_equal E R list before p.answer q.answer after other p.keeps q.keeps in
    (packed_same _ _ one two p q same, left)
