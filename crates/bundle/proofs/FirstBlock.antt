-- What the bytes of a block 0 that is right say: the edition is that of R, E, R and N are in range, a byte up to 3 + E is a mark, and every byte behind is 0.
use Prim.Native.Nat.{ℕ, ◌+◌, ◌<◌, ◌≤◌}
use mathlib.Core.Path.{◌≡◌}
use mathlib.Core.Bool.{true, false, not, ◌&&◌}
use mathlib.Core.Logic.{◌⊎◌}
use mathlib.Core.List.{List}
use native.Mathlib.Omega.{arith}
use lib.Dec.{eqb, ltb, leb}
use borrow.Author.Tests.{lt-ltb, le-leb, eqb-true, ltb-false, not-false}
use Rattle.base.specs.Byte.{byte_at}
use Rattle.base.specs.Range.{outside}
use Rattle.base.proofs.Lowest.{any_false}
use Rattle.base.proofs.Flags.{or_false, and_false, either, inside}
use Rattle.block.specs.Block.{block}
use Rattle.bundle.specs.Edition.{most_names, edition_for}
use Rattle.bundle.specs.Layout.{first_byte_wrong, entities_of, names_of, first_wrong}
use Rattle.bundle.proofs.Parts.{first_byte_lem}

-- byte i of block 0 is right
record RightByte (wanted E i b : ℕ) : Type 0 where
  edition : (eqb i 0 && not (eqb b wanted)) ≡ false
  entities : (eqb i 1 && outside 32 b) ≡ false
  names : (eqb i 2 && outside most_names b) ≡ false
  records : (eqb i 3 && ltb 240 b) ≡ false
  mark : ((leb 4 i && leb i (3 + E)) && (not (eqb b 1) && not (eqb b 2))) ≡ false
  behind : ((leb 4 i && ltb (3 + E) i) && not (eqb b 0)) ≡ false

right_byte : (wanted E i b : ℕ) → first_byte_wrong wanted E i b ≡ false → RightByte wanted E i b
right_byte wanted E i b h =
    let (five, behind) = or_false _ _ h in
    let (four, mark) = or_false _ _ five in
    let (three, records) = or_false _ _ four in
    let (two, names) = or_false _ _ three in
    let (edition, entities) = or_false (eqb i 0 && not (eqb b wanted)) _ two in
    record { edition = edition; entities = entities; names = names; records = records; mark = mark; behind = behind }

module _ (bytes : List ℕ) (h : first_wrong (block bytes 0) ≡ false) where
  right : (i : ℕ) → i < 510 → RightByte (edition_for (names_of bytes)) (entities_of bytes) i (byte_at bytes i)
  unfolding first_wrong
  right i l =
      let first = block bytes 0 in
      let e : entities_of first ≡ entities_of bytes = first_byte_lem bytes 1 (omega arith) in
      let n : names_of first ≡ names_of bytes = first_byte_lem bytes 2 (omega arith) in
      let same : byte_at first i ≡ byte_at bytes i = first_byte_lem bytes i (omega arith) in
      let wrong : first_byte_wrong (edition_for (names_of first)) (entities_of first) i (byte_at first i) ≡ false = any_false _ 510 h i l in
      right_byte (edition_for (names_of bytes)) (entities_of bytes) i (byte_at bytes i) (rw (e, n, same) at wrong)

  pub edition_right : byte_at bytes 0 ≡ edition_for (names_of bytes)
  edition_right =
      eqb-true (byte_at bytes 0) (edition_for (names_of bytes)) (not-false (eqb (byte_at bytes 0) (edition_for (names_of bytes))) (right 0 (omega arith)).edition)

  pub entities_right : (1 ≤ byte_at bytes 1) × (byte_at bytes 1 ≤ 32)
  entities_right = inside 32 (byte_at bytes 1) (right 1 (omega arith)).entities

  pub names_right : (1 ≤ byte_at bytes 2) × (byte_at bytes 2 ≤ most_names)
  names_right = inside most_names (byte_at bytes 2) (right 2 (omega arith)).names

  pub records_right : byte_at bytes 3 ≤ 240
  records_right = ltb-false 240 (byte_at bytes 3) (right 3 (omega arith)).records

  pub mark_right : (i : ℕ) → 4 ≤ i → i ≤ 3 + byte_at bytes 1 → (byte_at bytes i ≡ 1) ⊎ (byte_at bytes i ≡ 2)
  mark_right i l m =
      let r = right i (omega (arith, entities_right)) in
      let marks : (leb 4 i && leb i (3 + byte_at bytes 1)) ≡ true = rw (le-leb 4 i l, le-leb i (3 + byte_at bytes 1) m) in
      either (byte_at bytes i) 1 2 (and_false _ _ r.mark marks)

  pub behind_right : (i : ℕ) → 3 + byte_at bytes 1 < i → i < 510 → byte_at bytes i ≡ 0
  behind_right i l m =
      let start : 4 ≤ i = omega arith in
      let after : (leb 4 i && ltb (3 + byte_at bytes 1) i) ≡ true = rw (le-leb 4 i start, lt-ltb (3 + byte_at bytes 1) i l) in
      eqb-true (byte_at bytes i) 0 (not-false (eqb (byte_at bytes i) 0) (and_false _ _ (right i m).behind after))
