-- The mistake of a record: the first way in which some byte is wrong is the row that is due, and there is only one.
use Rattle.std.specs.Prelude.{Option, Some, None}
use Prim.Native.Nat.{ℕ, zero, suc, ◌+◌, ◌<◌, ◌≤◌}
use mathlib.Core.Path.{◌≡◌, refl, sym, ap, ◌∙◌}
use mathlib.Core.Bool.{true, false, cond}
use mathlib.Core.Logic.{inl, inr, ◌↔◌}
use mathlib.Core.List.{List}
use native.Mathlib.Omega.{arith}
use lib.Dec.{eqb}
use borrow.Author.Tests.{le-ltb, ltb-true, ltb-false}
use Rattle.base.specs.Refusals.{row, AtZero, AllOnePlace, AllNumbered, Applies, Due, refused, passed}
use Rattle.base.proofs.Lowest.{lowest_is, any_somewhere, any_true, clash}
use Rattle.base.proofs.Refusals.{zero_place, judged_same, judged_exactly}
use Rattle.records.specs.declared.mistake.Mistake.{Mistake}
use Rattle.records.specs.declared.mistake.Mistake.TheVariants.{UnknownForm, NumberOfParts, EntityOutOfRange, NameOutOfRange, ByteNotZero}
use Rattle.records.specs.Kinds.{byte_wrong}
use Rattle.base.specs.Cause.{number_for}
use Rattle.records.specs.Mistake.{SomeByte, mistake_rows, cause_of, mistake_number, Mistaken, some_wrong, mistake_kind, kind_number, record_wrong}

module _ (E R : ℕ) (bytes : List ℕ) where
  pub one_place : AllOnePlace (mistake_rows E R bytes)
  one_place = (zero_place _, (zero_place _, (zero_place _, (zero_place _, (zero_place _, tt)))))

  pub numbered : AllNumbered (mistake_rows E R bytes)
  numbered = (omega arith, (omega arith, (omega arith, (omega arith, (omega arith, tt)))))

  some_byte : (k : ℕ) → some_wrong E R bytes k ≡ true → SomeByte E R bytes k
  some_byte k e = let (l, h) = any_true (byte_wrong E R bytes k) 12 e in (_, l, h)

  none_byte : (k : ℕ) → some_wrong E R bytes k ≡ false → Applies (row (61 + k) (AtZero (SomeByte E R bytes k))) → ⊥
  none_byte k e (_, (_, (i, l, h))) = clash _ (any_somewhere (byte_wrong E R bytes k) 12 i l h) e

  -- the kinds before the first one are none
  missed : (k : ℕ) → k < mistake_kind E R bytes → Applies (row (61 + k) (AtZero (SomeByte E R bytes k))) → ⊥
  unfolding mistake_kind
  missed k l = none_byte k ((lowest_is (some_wrong E R bytes) 5).missed k l)

  there : (k : ℕ) → k < 5 → k ≡ mistake_kind E R bytes → SomeByte E R bytes k
  unfolding mistake_kind
  there k l e = some_byte k (rw e ((lowest_is (some_wrong E R bytes) 5).hit (rw (← e) l)))

  -- by the first kind
  pub unknown_form : 0 ≡ mistake_kind E R bytes → Mistaken E R bytes (Some UnknownForm)
  unknown_form e = refused (inl (refl, (refl, there 0 (omega arith) e))) tt

  pub number_of_parts : 1 ≡ mistake_kind E R bytes → Mistaken E R bytes (Some NumberOfParts)
  number_of_parts e = refused (inr (missed 0 (omega arith), inl (refl, (refl, there 1 (omega arith) e)))) tt

  pub entity_out_of_range : 2 ≡ mistake_kind E R bytes → Mistaken E R bytes (Some EntityOutOfRange)
  entity_out_of_range e =
      refused (inr (missed 0 (omega arith), inr (missed 1 (omega arith), inl (refl, (refl, there 2 (omega arith) e))))) tt

  pub name_out_of_range : 3 ≡ mistake_kind E R bytes → Mistaken E R bytes (Some NameOutOfRange)
  name_out_of_range e =
      refused
      (inr (missed 0 (omega arith), inr (missed 1 (omega arith), inr (missed 2 (omega arith), inl (refl, (refl, there 3 (omega arith) e))))))
      tt

  pub byte_not_zero : 4 ≡ mistake_kind E R bytes → Mistaken E R bytes (Some ByteNotZero)
  byte_not_zero e =
      refused
      (inr (
        missed 0 (omega arith),
        inr (
          missed 1 (omega arith),
          inr (
            missed 2 (omega arith),
            inr (
              missed 3 (omega arith),
              inl (refl, (refl, there 4 (omega arith) e)),
            ),
          ),
        ),
      ))
      tt

  pub nothing_wrong : 5 ≤ mistake_kind E R bytes → Mistaken E R bytes None
  nothing_wrong l =
      passed refl refl
      (missed 0 (omega arith), (missed 1 (omega arith), (missed 2 (omega arith), (missed 3 (omega arith), (missed 4 (omega arith), tt)))))
      tt

-- the mistake that a number stands for
abbrev mistake_of : ℕ → Option Mistake
mistake_of n =
    cond (eqb n 61) (Some UnknownForm)
    (cond (eqb n 62) (Some NumberOfParts)
    (cond (eqb n 63) (Some EntityOutOfRange) (cond (eqb n 64) (Some NameOutOfRange) (cond (eqb n 65) (Some ByteNotZero) None))))

number_back : (m : Option Mistake) → mistake_of (mistake_number m) ≡ m
number_back (Some UnknownForm) = refl
number_back (Some NumberOfParts) = refl
number_back (Some EntityOutOfRange) = refl
number_back (Some NameOutOfRange) = refl
number_back (Some ByteNotZero) = refl
number_back None = refl

-- a mistake has a number, that of its cause
pub some_number : (m : Mistake) → mistake_number (Some m) ≡ 0 → ⊥
some_number UnknownForm e = absurd (omega arith)
some_number NumberOfParts e = absurd (omega arith)
some_number EntityOutOfRange e = absurd (omega arith)
some_number NameOutOfRange e = absurd (omega arith)
some_number ByteNotZero e = absurd (omega arith)

pub cause_number : (m : Mistake) → number_for (cause_of m) ≡ mistake_number (Some m)
cause_number UnknownForm = refl
cause_number NumberOfParts = refl
cause_number EntityOutOfRange = refl
cause_number NameOutOfRange = refl
cause_number ByteNotZero = refl

-- a record has one mistake, or none
pub one_mistake : (E R : ℕ) (bytes : List ℕ) (m n : Option Mistake) → Mistaken E R bytes m → Mistaken E R bytes n → m ≡ n
one_mistake E R bytes m n p q =
    let same = judged_same (mistake_rows E R bytes) (one_place E R bytes) p q in
    sym (number_back m) ∙ ap mistake_of same.0 ∙ number_back n

-- each mistake is given exactly when its own row applies and no row before it
pub mistake_exactly : (E R : ℕ) (bytes : List ℕ) (m : Option Mistake) → Mistaken E R bytes m → (n : ℕ) → 1 ≤ n
    → (mistake_number m ≡ n) ↔ Due (mistake_rows E R bytes) n 0
mistake_exactly E R bytes m p n l =
    let exactly = judged_exactly (mistake_rows E R bytes) (one_place E R bytes) (numbered E R bytes) p n 0 l in
    (λ e. exactly.0 (e, refl), λ d. (exactly.1 d).0)

-- the mistake of a kind
abbrev mistake_at : ℕ → Option Mistake
mistake_at zero = Some UnknownForm
mistake_at (suc zero) = Some NumberOfParts
mistake_at (suc (suc zero)) = Some EntityOutOfRange
mistake_at (suc (suc (suc zero))) = Some NameOutOfRange
mistake_at (suc (suc (suc (suc zero)))) = Some ByteNotZero
mistake_at (suc (suc (suc (suc (suc k))))) = None

at_kind : (E R : ℕ) (bytes : List ℕ) (k : ℕ) → k ≡ mistake_kind E R bytes → Mistaken E R bytes (mistake_at k)
at_kind E R bytes zero e = unknown_form E R bytes e
at_kind E R bytes (suc zero) e = number_of_parts E R bytes e
at_kind E R bytes (suc (suc zero)) e = entity_out_of_range E R bytes e
at_kind E R bytes (suc (suc (suc zero))) e = name_out_of_range E R bytes e
at_kind E R bytes (suc (suc (suc (suc zero)))) e = byte_not_zero E R bytes e
at_kind E R bytes (suc (suc (suc (suc (suc k))))) e = nothing_wrong E R bytes (omega arith)

nothing_kind : (k : ℕ) → mistake_number (mistake_at k) ≡ 0 → 5 ≤ k
nothing_kind zero e = absurd (omega arith)
nothing_kind (suc zero) e = absurd (omega arith)
nothing_kind (suc (suc zero)) e = absurd (omega arith)
nothing_kind (suc (suc (suc zero))) e = absurd (omega arith)
nothing_kind (suc (suc (suc (suc zero)))) e = absurd (omega arith)
nothing_kind (suc (suc (suc (suc (suc k))))) e = omega arith

-- the number of a mistake is that of the first way in which some byte is wrong
kind_number_lem : (k : ℕ) → mistake_number (mistake_at k) ≡ kind_number k
kind_number_lem zero = refl
kind_number_lem (suc zero) = refl
kind_number_lem (suc (suc zero)) = refl
kind_number_lem (suc (suc (suc zero))) = refl
kind_number_lem (suc (suc (suc (suc zero)))) = refl
kind_number_lem (suc (suc (suc (suc (suc k))))) = rw (le-ltb (suc (suc (suc (suc (suc k))))) 5 (omega arith))

pub mistake_number_lem : (E R : ℕ) (bytes : List ℕ) (m : Option Mistake) → Mistaken E R bytes m → mistake_number m ≡ kind_number (mistake_kind E R bytes)
mistake_number_lem E R bytes m p =
    ap mistake_number (one_mistake E R bytes m (mistake_at (mistake_kind E R bytes)) p (at_kind E R bytes (mistake_kind E R bytes) refl))
    ∙ kind_number_lem (mistake_kind E R bytes)

-- a record that is wrong has one of the five mistakes, and its number is due
pub wrong_due : (E R : ℕ) (bytes : List ℕ) → record_wrong E R bytes ≡ true → Due (mistake_rows E R bytes) (kind_number (mistake_kind E R bytes)) 0
unfolding mistake_kind
wrong_due E R bytes h =
    let l : mistake_kind E R bytes < 5 = ltb-true (mistake_kind E R bytes) 5 h in
    by (mistake_kind E R bytes) refl l
  where
    by : (k : ℕ) → k ≡ mistake_kind E R bytes → k < 5 → Due (mistake_rows E R bytes) (kind_number k) 0
    by k e l = from (at_kind E R bytes k e)
      where
        from : Mistaken E R bytes (mistake_at k) → Due (mistake_rows E R bytes) (kind_number k) 0
        from (refused d _) = rw (← kind_number_lem k) d
        from (passed z _ _ _) = absurd (omega (arith, nothing_kind k z))

-- a record is wrong exactly if it has a mistake
pub right_record : (E R : ℕ) (bytes : List ℕ) → (record_wrong E R bytes ≡ false) ↔ Mistaken E R bytes None
unfolding mistake_kind
right_record E R bytes = (
  λ h. nothing_wrong E R bytes (ltb-false (mistake_kind E R bytes) 5 h),
  λ m. le-ltb (mistake_kind E R bytes) 5
      (nothing_kind (mistake_kind E R bytes) (ap mistake_number (one_mistake E R bytes (mistake_at (mistake_kind E R bytes)) None (at_kind E R bytes (mistake_kind E R bytes) refl) m))),
)
