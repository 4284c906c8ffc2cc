-- The reader worked out in one pass over each block. Its definitions fetch every byte by its number, which takes long on a list of bytes
-- that is written out. Here each block is gone through from its first byte; a bundle that passes is accepted, and its checks are those
-- that the passes give.
use Prim.Native.Nat.{ℕ, zero, suc, ◌+◌, ◌-◌, ◌*◌, ◌%◌, ◌≤◌, ◌<◌}
use native.Mathlib.Nat.{add-zero, zero-add}
use native.Mathlib.Omega.{arith}
use mathlib.Core.Path.{◌≡◌, refl, sym, ap, ◌∙◌}
use mathlib.Core.Bool.{Bool, false, not, ◌||◌}
use mathlib.Core.List.{List, [], ◌∷◌, ◌++◌}
use lib.ListN.{length, take, get_or, length-take, length-drop}
use lib.Seq.{take-suc, get_or-take, length-take-le}
use lib.Dec.{eqb}
use Rattle.base.specs.Byte.{byte_at}
use Rattle.base.specs.Lowest.{any_below}
use Rattle.base.proofs.Flags.{or_false}
use Rattle.base.proofs.Lowest.{Missed, any_none, any_false}
use Rattle.block.specs.Block.{block, weighed, check_of, stored_check, check_wrong}
use Rattle.bundle.specs.declared.read.Sizes.{Sizes}
use Rattle.bundle.specs.Edition.{edition_for}
use Rattle.bundle.specs.Layout.{length_wrong, blocks, sizes_in, entities_of, names_of, first_byte_wrong, first_wrong, blocks_for, records_of, records_in}
use Rattle.bundle.specs.Layout.{beside_byte_wrong, beside_wrong, bad_check, bad_beside, bad_record}
use Rattle.bundle.specs.Rows.{Accepts}
use Rattle.bundle.proofs.Stages.{length_right}
use Rattle.bundle.proofs.Passed.{passed_clear}
use Rattle.house.specs.Cases.{checks_of}

-- ---- the check

-- the sum of the bytes, each times its number, the first one's number being i + 1
unfoldable pub weigh_from : ℕ → List ℕ → ℕ
weigh_from i [] = 0
weigh_from i (b ∷ bytes) = suc i * b + weigh_from (suc i) bytes

weigh_last : (i : ℕ) (bytes : List ℕ) (b : ℕ) → weigh_from i (bytes ++ (b ∷ [])) ≡ weigh_from i bytes + suc (i + length bytes) * b
unfolding weigh_from
weigh_last i [] b = rw (add-zero i) (omega arith)
weigh_last i (x ∷ bytes) b =
    let moved : i + suc (length bytes) ≡ suc i + length bytes = omega arith in
    rw (moved, weigh_last (suc i) bytes b) (omega arith)

weighed_pass : (bytes : List ℕ) (n : ℕ) → n ≤ length bytes → weighed bytes n ≡ weigh_from 0 (take n bytes)
unfolding weighed weigh_from
weighed_pass bytes zero h = refl
weighed_pass bytes (suc n) h =
    let inside : n < length bytes = omega arith in
    let size : 0 + length (take n bytes) ≡ n = omega (arith, length-take-le n bytes (omega arith)) in
    rw (take-suc bytes n 0, weigh_last, size, weighed_pass bytes n (omega arith))

unfoldable pub check_pass : List ℕ → ℕ
unfolding weigh_from
check_pass bytes = (1 + weigh_from 0 (take 510 bytes)) % 65521

check_pass_lem : (bytes : List ℕ) → 510 ≤ length bytes → check_of bytes ≡ check_pass bytes
unfolding check_of check_pass
check_pass_lem bytes h = rw (weighed_pass bytes 510 h)

-- the checks of the first n blocks
unfoldable pub checks_pass : List ℕ → ℕ → List ℕ
checks_pass bytes zero = []
checks_pass bytes (suc k) = checks_pass bytes k ++ (check_pass (block bytes k) ∷ [])

-- a whole block
block_whole : (bytes : List ℕ) (k : ℕ) → 512 * suc k ≤ length bytes → 510 ≤ length (block bytes k)
block_whole bytes k h = rw (length-take, length-drop) (omega arith)

checks_pass_lem : (bytes : List ℕ) (n : ℕ) → 512 * n ≤ length bytes → checks_of bytes n ≡ checks_pass bytes n
unfolding checks_of checks_pass
checks_pass_lem bytes zero h = refl
checks_pass_lem bytes (suc k) h =
    rw (checks_pass_lem bytes k (omega arith), check_pass_lem (block bytes k) (block_whole bytes k h))

-- ---- the layout

-- a test of number and byte holds somewhere, the first byte's number being i
unfoldable pub any_from : (ℕ → ℕ → Bool) → ℕ → List ℕ → Bool
any_from test i [] = false
any_from test i (b ∷ bytes) = test i b || any_from test (suc i) bytes

none_from : (test : ℕ → ℕ → Bool) (i : ℕ) (bytes : List ℕ) → any_from test i bytes ≡ false
    → (j : ℕ) → j < length bytes → test (i + j) (get_or bytes j 0) ≡ false
unfolding any_from
none_from test i [] h j l = absurd (omega arith)
none_from test i (b ∷ bytes) h zero l = rw (add-zero i) (or_false (test i b) (any_from test (suc i) bytes) h).0
none_from test i (b ∷ bytes) h (suc j) l =
    let moved : i + suc j ≡ suc i + j = omega arith in
    rw moved (none_from test (suc i) bytes (or_false (test i b) (any_from test (suc i) bytes) h).1 j (omega arith))

-- it holds nowhere in the first 510 bytes
none_pass : (test : ℕ → ℕ → Bool) (bytes : List ℕ) → 510 ≤ length bytes → any_from test 0 (take 510 bytes) ≡ false
    → any_below (λ i. test i (byte_at bytes i)) 510 ≡ false
none_pass test bytes long h = sym (any_none (λ i. test i (byte_at bytes i)) 510 510 (omega arith) (omega arith) missed)
  where
    missed : Missed (λ i. test i (byte_at bytes i)) 510
    missed i l =
        let found = none_from test 0 (take 510 bytes) h i (omega (arith, length-take-le 510 bytes long)) in
        rw (zero-add i, get_or-take 510 bytes i 0 l) at found

-- ---- the bundle

-- what the passes give of a bundle: what is wrong, the number of blocks, and what block 0 says
pub record Pass : Type 0 where
  pub wrong_length : Bool
  pub wrong_check : Bool
  pub wrong_first : Bool
  pub wrong_beside : Bool
  pub wrong_record : Bool
  pub count : ℕ
  pub says : Sizes

unfoldable pub pass : List ℕ → Pass
pass bytes =
    let first = block bytes 0 in
    record {
      wrong_length = length_wrong (length bytes);
      wrong_check = any_below (λ k. not (eqb (check_pass (block bytes k)) (stored_check (block bytes k)))) (blocks bytes);
      wrong_first = any_from (first_byte_wrong (edition_for (names_of first)) (entities_of first)) 0 (take 510 first);
      wrong_beside = any_below
          (λ j. any_from (beside_byte_wrong j (records_in (records_of bytes) j)) 0 (take 510 (block bytes (j + 1)))) (blocks bytes - 1);
      wrong_record = any_below (bad_record bytes) (records_of bytes);
      count = blocks bytes;
      says = sizes_in bytes;
    }

-- a bundle with nothing wrong
abbrev pub passed : Sizes → Pass
passed s = record {
  wrong_length = false;
  wrong_check = false;
  wrong_first = false;
  wrong_beside = false;
  wrong_record = false;
  count = blocks_for s.records;
  says = s;
}

module _ (bytes : List ℕ) (s : Sizes) (h : pass bytes ≡ passed s) where
  right_length : length_wrong (length bytes) ≡ false
  unfolding pass
  right_length = ap (λ (x : Pass). x.wrong_length) h

  whole : (1 ≤ blocks bytes) × (512 * blocks bytes ≤ length bytes)
  whole = omega (arith, length_right (length bytes) right_length)

  right_checks : Missed (bad_check bytes) (blocks bytes)
  unfolding pass check_wrong
  right_checks k l =
      let right = any_false _ (blocks bytes) (ap (λ (x : Pass). x.wrong_check) h) k l in
      rw (check_pass_lem (block bytes k) (block_whole bytes k (omega (arith, whole)))) right

  right_first : first_wrong (block bytes 0) ≡ false
  unfolding pass first_wrong
  right_first = none_pass _ (block bytes 0) (block_whole bytes 0 (omega (arith, whole))) (ap (λ (x : Pass). x.wrong_first) h)

  right_beside : Missed (bad_beside bytes) (blocks bytes - 1)
  unfolding pass beside_wrong
  right_beside j l =
      none_pass _ (block bytes (j + 1)) (block_whole bytes (j + 1) (omega (arith, whole)))
      (any_false _ (blocks bytes - 1) (ap (λ (x : Pass). x.wrong_beside) h) j l)

  right_records : Missed (bad_record bytes) (records_of bytes)
  unfolding pass
  right_records = any_false _ (records_of bytes) (ap (λ (x : Pass). x.wrong_record) h)

  said : s ≡ sizes_in bytes
  unfolding pass
  said = sym (ap (λ (x : Pass). x.says) h)

  right_count : blocks bytes ≡ blocks_for (records_of bytes)
  unfolding pass
  right_count = let records : s.records ≡ records_of bytes = cc said in ap (λ (x : Pass). x.count) h ∙ ap blocks_for records

  -- nothing wrong is what the reader accepts
  pub pass_accepts : Accepts bytes s
  pass_accepts =
      record {
        clear = passed_clear bytes (record {
          right_length = right_length;
          right_checks = right_checks;
          right_first = right_first;
          right_count = right_count;
          right_beside = right_beside;
          right_records = right_records;
        });
        said = said;
      }

  -- and the checks are those that the passes give
  pub pass_checks : checks_of bytes (blocks bytes) ≡ checks_pass bytes (blocks bytes)
  pass_checks = checks_pass_lem bytes (blocks bytes) whole.1
