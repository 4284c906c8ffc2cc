-- The tests tell whether a sheet is right: its length, its check, and each byte before the check.
use Prim.Native.Nat.{ℕ, zero, suc, ◌<◌, ◌≤◌}
use mathlib.Core.Path.{◌≡◌, refl, sym}
use mathlib.Core.Bool.{Bool, true, false, not, ◌&&◌, ◌||◌}
use mathlib.Core.List.{List}
use native.Mathlib.Decide.{dec_lt}
use native.Mathlib.Omega.{arith}
use lib.ListN.{length}
use lib.Dec.{eqb, ltb, leb}
use borrow.Author.Tests.{lt-ltb, eq-eqb, eqb-true, ltb-true, leb-true, le-leb, not-false, not-true}
use Rattle.rt0.specs.Credential.{IsName}
use Rattle.base.specs.Byte.{byte_at}
use Rattle.base.specs.Range.{outside}
use Rattle.base.proofs.Flags.{Tells, or_false, both_false, and_false, inside, inside_flag}
use Rattle.base.proofs.Lowest.{any_false, any_none}
use Rattle.block.specs.Block.{check_of, stored_check, check_wrong}
use Rattle.types.proofs.Names.{and_tells}
use Rattle.sheet.specs.Sheet.{code_of, IsCode, RightSheet}
use Rattle.sheet.specs.Wrong.{sheet_byte_wrong, wrong_at, layout_wrong, sheet_wrong}

-- what a byte has to be where its test applies
record RightByte (R i b : ℕ) : Type 0 where
  code : i < R → IsCode b
  zero_byte_lem : R ≤ i → i < 508 → b ≡ 0
  number : i ≡ 508 → b ≡ 100
  names : i ≡ 509 → b ≡ R

-- a byte that is not another than it has to be
same_byte : (b n : ℕ) → not (eqb b n) ≡ false → b ≡ n
same_byte b n h = eqb-true b n (not-false (eqb b n) h)

-- a test that is false where it applies
and_if : (applies wrong : Bool) → (applies ≡ true → wrong ≡ false) → (applies && wrong) ≡ false
and_if true wrong h = h refl
and_if false wrong h = refl

module _ (R i b : ℕ) where
  byte_right : sheet_byte_wrong R i b ≡ false → RightByte R i b
  byte_right h =
      let (three, names) = or_false _ (eqb i 509 && not (eqb b R)) h in
      let (two, number) = or_false _ (eqb i 508 && not (eqb b 100)) three in
      let (code, zeros) = or_false (ltb i R && outside 6 b) ((leb R i && ltb i 508) && not (eqb b 0)) two in
      record {
        code = λ l. inside 6 b (and_false (ltb i R) (outside 6 b) code (lt-ltb i R l));
        zero_byte_lem = λ l m. same_byte b 0 (and_false (leb R i && ltb i 508) (not (eqb b 0)) zeros (rw (le-leb R i l, lt-ltb i 508 m)));
        number = λ e. same_byte b 100 (and_false (eqb i 508) (not (eqb b 100)) number (eq-eqb i 508 e));
        names = λ e. same_byte b R (and_false (eqb i 509) (not (eqb b R)) names (eq-eqb i 509 e));
      }

  right_byte : RightByte R i b → sheet_byte_wrong R i b ≡ false
  right_byte r =
      both_false _ (eqb i 509 && not (eqb b R))
      (both_false _ (eqb i 508 && not (eqb b 100))
      (both_false (ltb i R && outside 6 b) ((leb R i && ltb i 508) && not (eqb b 0))
      (and_if (ltb i R) (outside 6 b) (λ e. let (low, high) = r.code (ltb-true i R e) in inside_flag 6 b low high))
      (and_if (leb R i && ltb i 508) (not (eqb b 0))
      (λ e. let (from, below) = (and_tells (leb R i) (ltb i 508) (leb-true R i, le-leb R i) (ltb-true i 508, lt-ltb i 508)).0 e in
      rw (r.zero_byte_lem from below))))
      (and_if (eqb i 508) (not (eqb b 100)) (λ e. rw (r.number (eqb-true i 508 e)))))
      (and_if (eqb i 509) (not (eqb b R)) (λ e. rw (r.names (eqb-true i 509 e), eq-eqb R R refl)))

module _ (R : ℕ) (sheet : List ℕ) where
  -- the bytes before the check
  each_right : layout_wrong R sheet ≡ false → (i : ℕ) → i < 510 → RightByte R i (byte_at sheet i)
  unfolding layout_wrong
  each_right h i l = byte_right R i (byte_at sheet i) (any_false (wrong_at R sheet) 510 h i l)

  right_each : ((i : ℕ) → i < 510 → RightByte R i (byte_at sheet i)) → layout_wrong R sheet ≡ false
  unfolding layout_wrong
  right_each h = sym (any_none (wrong_at R sheet) 510 510 (omega arith) (omega arith) (λ i l. right_byte R i (byte_at sheet i) (h i l)))

  -- byte 508 is no code, so that there are no names behind it
  few_names : layout_wrong R sheet ≡ false → R ≤ 508
  few_names h = by (dec_lt 508 R)
    where
      by : Dec (508 < R) → R ≤ 508
      by (yes l) = let at = each_right h 508 (omega arith) in omega (arith, at.code l, at.number refl)
      by (no l) = omega arith

  name_code : layout_wrong R sheet ≡ false → (r : ℕ) → IsName R r → IsCode (code_of sheet r)
  name_code h zero n = absurd (omega arith)
  name_code h (suc i) n = (each_right h i (omega (arith, few_names h))).code (omega arith)

  -- the check
  check_told : Tells (not (check_wrong sheet)) (check_of sheet ≡ stored_check sheet)
  unfolding check_wrong
  check_told = (λ h. same_byte (check_of sheet) (stored_check sheet) (not-true (not (eqb (check_of sheet) (stored_check sheet))) h), λ e. rw (e, eq-eqb (stored_check sheet) (stored_check sheet) refl))

  right_sheet : sheet_wrong R sheet ≡ false → RightSheet R sheet
  right_sheet h =
      let (two, layout) = or_false (not (eqb (length sheet) 512) || check_wrong sheet) (layout_wrong R sheet) h in
      let (size, check) = or_false (not (eqb (length sheet) 512)) (check_wrong sheet) two in
      record {
        size = same_byte (length sheet) 512 size;
        check = check_told.0 (rw check);
        codes = name_code layout;
        zeros = λ i l m. (each_right layout i (omega arith)).zero_byte_lem l (omega arith);
        number = (each_right layout 508 (omega arith)).number refl;
        names = (each_right layout 509 (omega arith)).names refl;
      }

  sheet_right : RightSheet R sheet → sheet_wrong R sheet ≡ false
  sheet_right r =
      both_false (not (eqb (length sheet) 512) || check_wrong sheet) (layout_wrong R sheet)
      (both_false (not (eqb (length sheet) 512)) (check_wrong sheet) (rw r.size) (not-true (check_wrong sheet) (check_told.1 r.check)))
      (right_each (λ i l. record {
        code = λ m. r.codes (suc i) (omega arith);
        zero_byte_lem = λ m n. r.zeros i m (omega arith);
        number = λ e. rw e r.number;
        names = λ e. rw e r.names;
      }))

  pub sheet_told : Tells (not (sheet_wrong R sheet)) (RightSheet R sheet)
  sheet_told = (λ h. right_sheet (not-true (sheet_wrong R sheet) h), λ r. rw (sheet_right r))

  -- from what the functions found
  pub found_right : (check layout : Bool) → check ≡ check_wrong sheet → layout ≡ layout_wrong R sheet
      → Tells (not (not (eqb (length sheet) 512) || check || layout)) (RightSheet R sheet)
  found_right check layout e f = rw (e, f) sheet_told
