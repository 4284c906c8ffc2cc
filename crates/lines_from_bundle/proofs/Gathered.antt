-- The records of an accepted bundle, one behind the other, are those of its credentials.
use Prim.Native.Nat.{ℕ, zero, suc, ◌+◌, ◌*◌, ◌<◌, ◌≤◌}
use native.Mathlib.Omega.{arith}
use native.Mathlib.Numerals.{add-one}
use mathlib.Core.Path.{◌≡◌, refl, ap, ap₂, sym, ◌∙◌}
use mathlib.Core.List.{List, [], ◌∷◌, ◌++◌, append-nil, append_assoc}
use lib.ListN.{length, take, drop}
use Rattle.rt0.specs.Credential.{Credential}
use Rattle.base.proofs.Parts.{part_is}
use Rattle.block.specs.Block.{block_of, start_of}
use Rattle.records.specs.Mistake.{record_wrong}
use Rattle.records.specs.Bytes.{credential_in, bytes_of}
use Rattle.bundle.specs.declared.read.Sizes.{Sizes}
use Rattle.bundle.specs.Layout.{entities_of, names_of, record_bytes}
use Rattle.bundle.specs.Layout.{records_of as count_of}
use Rattle.bundle.specs.Rows.{Accepts}
use Rattle.bundle.specs.Held.{credentials}
use Rattle.bundle.proofs.Parts.{part}
use Rattle.bundle.proofs.Accepted.{accepted_contents}
use Rattle.content.specs.Content.{content_of, count, record_at}
use Rattle.content.proofs.Tabulated.{item_tabulate}
use Rattle.content.proofs.Whole.{count_said, valid_content}
use Rattle.text.specs.Written.{Wrote}
use Rattle.text.proofs.Written.{wrote_none, wrote_more}
use Rattle.spelling.proofs.Texts.{wrote_as}
use Rattle.candidates.proofs.Records.{own_record}
use Rattle.letters.specs.Lines.{records_of}
use Rattle.lines_from_bundle.specs.Gathered.{gathered}

-- one credential more, at the end
records_more : (cs : List Credential) (c : Credential) → records_of (cs ++ (c ∷ [])) ≡ records_of cs ++ bytes_of c
unfolding records_of
records_more [] c = append-nil (bytes_of c)
records_more (d ∷ cs) c = rw (records_more cs c, append_assoc (bytes_of d) (records_of cs) (bytes_of c))

module _ (bytes : List ℕ) (s : Sizes) (h : Accepts bytes s) where
  -- record i is right, and has twelve bytes
  its_own : (i : ℕ) → i < count_of bytes → bytes_of (credential_in (record_bytes bytes i)) ≡ record_bytes bytes i
  its_own i l =
      let v = valid_content bytes s h in
      let below : i < count (content_of bytes) = omega (arith, count_said bytes s h, (accepted_contents bytes s h).records) in
      let there : record_at (content_of bytes) i ≡ record_bytes bytes i = item_tabulate (record_bytes bytes) [] (count_of bytes) i l in
      own_record (entities_of bytes) (names_of bytes) (record_bytes bytes i)
      (ap length (sym there) ∙ v.twelve i below, ap (record_wrong (entities_of bytes) (names_of bytes)) (sym there) ∙ v.right_records i below)

  gathered_to : (n : ℕ) → n ≤ count_of bytes → gathered bytes n ≡ records_of (credentials bytes n)
  unfolding gathered credentials records_of
  gathered_to zero l = refl
  gathered_to (suc n) l =
      let c = credential_in (record_bytes bytes n) in
      ap₂ ◌++◌ (gathered_to n (omega arith)) (sym (its_own n (omega arith))) ∙ sym (records_more (credentials bytes n) c)

  pub gathered_is : gathered bytes (count_of bytes) ≡ records_of (credentials bytes (count_of bytes))
  gathered_is = gathered_to (count_of bytes) (omega arith)

-- Gathering them.

pub gathering_none : (bytes before : List ℕ) → Wrote before 0 (gathered bytes 0) before 0
unfolding gathered
gathering_none bytes before = wrote_none before 0

pub gathering_more : (bytes before after then : List ℕ) (at next n : ℕ) → Wrote before 0 (gathered bytes n) after at
    → Wrote after at (record_bytes bytes n) then next → Wrote before 0 (gathered bytes (n + 1)) then next
unfolding gathered
gathering_more bytes before after then at next n w v =
    let more : gathered bytes n ++ record_bytes bytes n ≡ gathered bytes (n + 1) = rw (add-one n) refl in
    wrote_as more (wrote_more w v)

-- the twelve bytes at the place of record i
pub record_part : (bytes : List ℕ) (i k start : ℕ) {before after : List ℕ} {at next : ℕ} → k ≡ block_of i → start ≡ start_of i
    → Wrote before at (take 12 (drop start (part bytes k))) after next → Wrote before at (record_bytes bytes i) after next
record_part bytes i k start b s w =
    wrote_as (ap₂ (λ (n m : ℕ). take 12 (drop n (part bytes m))) s b ∙ ap (λ (p : List ℕ). take 12 (drop (start_of i) p)) (part_is bytes (512 * block_of i) 512)) w
