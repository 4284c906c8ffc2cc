-- A part of the bundle that a function is lent is a block of the bundle, so what the function found holds of that block.
use Rattle.std.specs.Prelude.{Option, None}
use Prim.Native.Nat.{ℕ, ◌+◌, ◌-◌, ◌*◌, ◌<◌, ◌≤◌}
use mathlib.Core.Path.{◌≡◌, subst}
use mathlib.Core.Bool.{Bool, false}
use mathlib.Core.List.{List}
use lib.ListN.{length, take, drop}
use lib.Seq.{get_or-take}
use borrow.Author.Tests.{lt-ltb, le-ltb}
use Rattle.base.specs.Byte.{byte_at}
use Rattle.base.specs.Range.{outside}
use Rattle.base.proofs.Parts.{part_is, found_part}
use Rattle.block.specs.Block.{block, block_of, start_of}
use Rattle.records.specs.declared.form.Record.{Record}
use Rattle.records.specs.declared.mistake.Mistake.{Mistake}
use Rattle.records.specs.Mistake.{Mistaken, mistake_number, mistake_kind, kind_number, record_wrong}
use Rattle.records.proofs.Mistakes.{mistake_number_lem}
use Rattle.records.specs.Form.{record_in}
use Rattle.bundle.specs.declared.read.Sizes.{Sizes}
use Rattle.bundle.specs.Layout.{sizes_in, records_of, records_in, beside_wrong, bad_beside, record_bytes, bad_record}
use Rattle.bundle.specs.Reading.{mistake_in}
use Rattle.bundle.specs.Access.{record_of}

-- the part from byte 512 k to byte 512 k + 512
abbrev pub part : List ℕ → ℕ → List ℕ
part bytes k = take (512 * k + 512 - 512 * k) (drop (512 * k) bytes)

-- what a function found of the part is what it finds of the block
pub at_part : {A : Type 0} (f : List ℕ → A) (bytes : List ℕ) (k : ℕ) (found : A) → found ≡ f (part bytes k) → found ≡ f (block bytes k)
at_part f bytes k found e = found_part f bytes (512 * k) 512 found e

-- a byte of block 0 is a byte of the bundle
pub first_byte_lem : (bytes : List ℕ) (i : ℕ) → i < 512 → byte_at (block bytes 0) i ≡ byte_at bytes i
first_byte_lem bytes i h = get_or-take 512 bytes i 0 h

pub beside_found : (bytes : List ℕ) (n j records : ℕ) (found : Bool) → n ≡ records_of bytes → records ≡ records_in n j
    → found ≡ beside_wrong j records (part bytes (j + 1)) → found ≡ bad_beside bytes j
beside_found bytes n j records found e r h =
    at_part (beside_wrong j (records_in (records_of bytes) j)) bytes (j + 1) found (rw (← e, ← r) h)

-- what was found of the twelve bytes at the place of record i
pub record_found : {A : Type 0} (f : List ℕ → A) (bytes : List ℕ) (i k start : ℕ) (found : A) → k ≡ block_of i → start ≡ start_of i
    → found ≡ f (take 12 (drop start (part bytes k))) → found ≡ f (record_bytes bytes i)
record_found f bytes i k start found b s h =
    at_part (λ (p : List ℕ). f (take 12 (drop (start_of i) p))) bytes (block_of i) found (rw (← b, ← s) h)

pub wrong_found : (bytes : List ℕ) (sizes : Sizes) (i k start : ℕ) (found : Bool) → sizes ≡ sizes_in bytes → k ≡ block_of i
    → start ≡ start_of i → found ≡ record_wrong sizes.entities sizes.names (take 12 (drop start (part bytes k)))
    → found ≡ bad_record bytes i
wrong_found bytes sizes i k start found e b s h =
    record_found (record_wrong (sizes_in bytes).entities (sizes_in bytes).names) bytes i k start found b s
    (subst (λ (t : Sizes). found ≡ record_wrong t.entities t.names (take 12 (drop start (part bytes k)))) e h)

-- what is wrong with the twelve bytes of a part of a block
pub mistaken_part : (s : Sizes) (bytes : List ℕ) (start : ℕ) (m : Option Mistake)
    → Mistaken s.entities s.names (take (start + 12 - start) (drop start bytes)) m
    → Mistaken s.entities s.names (take 12 (drop start bytes)) m
mistaken_part s bytes start m h = subst (λ (r : List ℕ). Mistaken s.entities s.names r m) (part_is bytes start 12) h

-- and so with record i
pub mistake_found : (bytes : List ℕ) (s : Sizes) (i k start : ℕ) (m : Option Mistake) → s ≡ sizes_in bytes → k ≡ block_of i → start ≡ start_of i
    → Mistaken s.entities s.names (take 12 (drop start (part bytes k))) m → mistake_number m ≡ mistake_in bytes i
mistake_found bytes s i k start m e b t h =
    record_found (λ (r : List ℕ). kind_number (mistake_kind (sizes_in bytes).entities (sizes_in bytes).names r)) bytes i k start (mistake_number m) b t
    (subst (λ (x : Sizes). mistake_number m ≡ kind_number (mistake_kind x.entities x.names (take 12 (drop start (part bytes k))))) e
    (mistake_number_lem s.entities s.names _ m h))

-- a record whose block the bundle does not have whole
pub record_cut : (bytes : List ℕ) (n k : ℕ) → outside 240 n ≡ false → k ≡ block_of (n - 1) → length bytes < 512 * k + 512
    → None ≡ record_of bytes n
unfolding record_of
record_cut bytes n k among b h = rw (among, ← b, lt-ltb (length bytes) (512 * k + 512) h)

-- and one whose block it has
pub record_read : (bytes : List ℕ) (n k start : ℕ) (found : Option Record) → outside 240 n ≡ false → k ≡ block_of (n - 1)
    → start ≡ start_of (n - 1) → 512 * k + 512 ≤ length bytes → found ≡ record_in (take 12 (drop start (part bytes k)))
    → found ≡ record_of bytes n
unfolding record_of
record_read bytes n k start found among b s h e =
    let long : 512 * block_of (n - 1) + 512 ≤ length bytes = rw (← b) h in
    rw (among, le-ltb (length bytes) (512 * block_of (n - 1) + 512) long) (record_found record_in bytes (n - 1) k start found b s e)
