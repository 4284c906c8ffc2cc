-- Marks that are right: there are 32 of them, 1 or 2 for each shelf that there is, and 0 for the others; in both directions.
use Prim.Native.Nat.{ℕ, ◌<◌, ◌≤◌}
use mathlib.Core.Path.{◌≡◌}
use mathlib.Core.Bool.{false, not, ◌&&◌}
use mathlib.Core.Logic.{◌⊎◌, inl, inr}
use mathlib.Core.List.{List}
use native.Mathlib.Decide.{dec_lt}
use native.Mathlib.Omega.{arith}
use lib.ListN.{length, get_or-eq_default}
use lib.Dec.{eqb, ltb, leb}
use borrow.Author.Tests.{lt-ltb, le-ltb, le-leb, lt-leb, eq-eqb, eqb-true, not-false}
use Rattle.base.specs.Byte.{byte_at}
use Rattle.base.specs.Lowest.{any_below}
use Rattle.base.proofs.Lowest.{Missed, any_false, any_none}
use Rattle.base.proofs.Flags.{or_false, and_false, either}
use Rattle.content.specs.Content.{mark_wrong, marks_wrong}

-- what marks that are right are
pub record RightMarks (E : ℕ) (marks : List ℕ) : Type 0 where
  pub many : length marks ≡ 32
  pub there : (i : ℕ) → i < E → i < 32 → (byte_at marks i ≡ 1) ⊎ (byte_at marks i ≡ 2)
  pub others : (i : ℕ) → E ≤ i → byte_at marks i ≡ 0

module _ (E i b : ℕ) (h : mark_wrong E i b ≡ false) where
  mark_there : i < E → (b ≡ 1) ⊎ (b ≡ 2)
  mark_there l =
      let (one, _) = or_false (ltb i E && (not (eqb b 1) && not (eqb b 2))) _ h in
      either b 1 2 (and_false (ltb i E) _ one (lt-ltb i E l))

  mark_other : E ≤ i → b ≡ 0
  mark_other l =
      let (_, two) = or_false (ltb i E && (not (eqb b 1) && not (eqb b 2))) _ h in
      eqb-true b 0 (not-false (eqb b 0) (and_false (leb E i) _ two (le-leb E i l)))

mark_right : (E i b : ℕ) → (i < E → (b ≡ 1) ⊎ (b ≡ 2)) → (E ≤ i → b ≡ 0) → mark_wrong E i b ≡ false
mark_right E i b h k = among (dec_lt i E)
  where
    one : (b ≡ 1) ⊎ (b ≡ 2) → (not (eqb b 1) && not (eqb b 2)) ≡ false
    one (inl e) = rw e
    one (inr e) = rw e

    among : Dec (i < E) → mark_wrong E i b ≡ false
    among (yes l) = rw (lt-ltb i E l, lt-leb E i l, one (h l))
    among (no l) = let m : E ≤ i = omega arith in rw (le-ltb i E m, le-leb E i m, k m)

module _ (E : ℕ) (marks : List ℕ) where
  pub right_marks : marks_wrong E marks ≡ false → RightMarks E marks
  unfolding marks_wrong
  right_marks h =
      let (size, each) = or_false (not (eqb (length marks) 32)) _ h in
      let many : length marks ≡ 32 = eqb-true (length marks) 32 (not-false (eqb (length marks) 32) size) in
      record {
        many = many;
        there = λ i l m. mark_there E i (byte_at marks i) (any_false (λ i. mark_wrong E i (byte_at marks i)) 32 each i m) l;
        others = λ i l. other many each i l (dec_lt i 32);
      }
    where
      other : length marks ≡ 32 → any_below (λ i. mark_wrong E i (byte_at marks i)) 32 ≡ false → (i : ℕ) → E ≤ i → Dec (i < 32) → byte_at marks i ≡ 0
      other many each i l (yes m) = mark_other E i (byte_at marks i) (any_false (λ i. mark_wrong E i (byte_at marks i)) 32 each i m) l
      other many each i l (no m) = get_or-eq_default marks 0 (omega arith)

  pub marks_right : RightMarks E marks → marks_wrong E marks ≡ false
  unfolding marks_wrong
  marks_right r =
      let missed : Missed (λ i. mark_wrong E i (byte_at marks i)) 32 =
      λ i l. mark_right E i (byte_at marks i) (λ m. r.there i m l) (λ m. r.others i m) in
      rw (eq-eqb (length marks) 32 r.many, ← any_none (λ i. mark_wrong E i (byte_at marks i)) 32 32 (omega arith) (omega arith) missed)
