-- The laws of a table of refusals, once for any list of rows: what is due is unique, something is due or no row applies, one table behind
-- another, and the first of tests that decide the rows is what is due. What a promise by such a table says of an answer follows at the end.
use Prim.Native.Nat.{ℕ, suc, ◌<◌, ◌≤◌}
use mathlib.Core.Path.{◌≡◌, refl, sym, ap, ◌∙◌, subst₂}
use mathlib.Core.Bool.{Bool, true, false, cond, true≢false}
use native.Mathlib.Decide.{dec_lt}
use native.Mathlib.Omega.{arith}
use native.Mathlib.Numerals.{add-one}
use mathlib.Core.Option.{Option, none, some, none-ne-some, some-injective}
use mathlib.Core.Logic.{◌⊎◌, inl, inr, ◌↔◌, ⊎_elim}
use mathlib.Core.List.{List, [], ◌∷◌, ◌++◌}
use lib.Dec.{ltb}
use borrow.Author.Tests.{ltb-true, lt-ltb}
use Rattle.base.specs.Lowest.{LowestBelow, lowest}
use Rattle.base.specs.Refusals.{Row, AtPlace, AtZero, FromOne, Applies, Clear, Due, Judged, refused, passed}
use Rattle.base.specs.Refusals.{OnePlace, AllOnePlace, AllNumbered}
use Rattle.base.specs.Refusals.{Refusal, given, clear, Test, zero_if, place_below, lowest_from_one, pick, first, Finds, Decided}
use Rattle.base.proofs.Flags.{Tells}
use Rattle.base.proofs.Lowest.{Missed, IsLowest, lowest_is, lowest_unique, clash}

-- What is due.

pub due_unique : (rs : List Row) → AllOnePlace rs → (n p m q : ℕ) → Due rs n p → Due rs m q → (n ≡ m) × (p ≡ q)
due_unique [] s n p m q d e = absurd d
due_unique (r ∷ rs) s n p m q (inl d) (inl e) = (sym d.0 ∙ e.0, s.0 p q d.1 e.1)
due_unique (r ∷ rs) s n p m q (inl d) (inr e) = absurd (e.0 (p, d.1))
due_unique (r ∷ rs) s n p m q (inr d) (inl e) = absurd (d.0 (q, e.1))
due_unique (r ∷ rs) s n p m q (inr d) (inr e) = due_unique rs s.1 n p m q d.1 e.1

pub due_clear : (rs : List Row) (n p : ℕ) → Clear rs → Due rs n p → ⊥
due_clear [] n p c d = d
due_clear (r ∷ rs) n p c (inl d) = c.0 (p, d.1)
due_clear (r ∷ rs) n p c (inr d) = due_clear rs n p c.1 d.1

pub due_number : (rs : List Row) → AllNumbered rs → (n p : ℕ) → Due rs n p → 1 ≤ n
due_number [] s n p d = absurd d
due_number (r ∷ rs) s n p (inl d) = omega (arith, s.0, d.0)
due_number (r ∷ rs) s n p (inr d) = due_number rs s.1 n p d.1

-- One table behind another.

pub due_first : (rs ss : List Row) (n p : ℕ) → Due rs n p → Due (rs ++ ss) n p
due_first [] ss n p d = absurd d
due_first (r ∷ rs) ss n p (inl d) = inl d
due_first (r ∷ rs) ss n p (inr d) = inr (d.0, due_first rs ss n p d.1)

pub due_later : (rs ss : List Row) (n p : ℕ) → Clear rs → Due ss n p → Due (rs ++ ss) n p
due_later [] ss n p c d = d
due_later (r ∷ rs) ss n p c d = inr (c.0, due_later rs ss n p c.1 d)

-- what is due in both is due in the first, or in the second where no row of the first applies
pub due_split : (rs ss : List Row) (n p : ℕ) → Due (rs ++ ss) n p → Due rs n p ⊎ (Clear rs × Due ss n p)
due_split [] ss n p d = inr (tt, d)
due_split (r ∷ rs) ss n p (inl d) = inl (inl d)
due_split (r ∷ rs) ss n p (inr d) =
    ⊎_elim (λ e. inl (inr (d.0, e))) (λ e. inr ((d.0, e.0), e.1)) (due_split rs ss n p d.1)

pub clear_both : (rs ss : List Row) → Clear rs → Clear ss → Clear (rs ++ ss)
clear_both [] ss c d = d
clear_both (r ∷ rs) ss c d = (c.0, clear_both rs ss c.1 d)

pub clear_first : (rs ss : List Row) → Clear (rs ++ ss) → Clear rs
clear_first [] ss c = tt
clear_first (r ∷ rs) ss c = (c.0, clear_first rs ss c.1)

pub clear_later : (rs ss : List Row) → Clear (rs ++ ss) → Clear ss
clear_later [] ss c = c
clear_later (r ∷ rs) ss c = clear_later rs ss c.1

pub one_place_both : (rs ss : List Row) → AllOnePlace rs → AllOnePlace ss → AllOnePlace (rs ++ ss)
one_place_both [] ss s t = t
one_place_both (r ∷ rs) ss s t = (s.0, one_place_both rs ss s.1 t)

pub numbered_both : (rs ss : List Row) → AllNumbered rs → AllNumbered ss → AllNumbered (rs ++ ss)
numbered_both [] ss s t = t
numbered_both (r ∷ rs) ss s t = (s.0, numbered_both rs ss s.1 t)

-- Rows that apply at one place at most.

pub at_place : (n : ℕ) (P : Type 0) → OnePlace (AtPlace n P)
at_place n P p q a b = a.0 ∙ sym b.0

pub zero_place : (P : Type 0) → OnePlace (AtZero P)
zero_place P = at_place 0 P

is_lowest : {holds : ℕ → Bool} {n k : ℕ} → LowestBelow holds n k → IsLowest holds n k
is_lowest r = record { most = omega (arith, r.below); missed = r.lowest; hit = λ _. r.holds }

pub lowest_place : (holds : ℕ → Bool) (n : ℕ) → OnePlace (LowestBelow holds n)
lowest_place holds n p q a b = lowest_unique _ _ _ _ (is_lowest a) (is_lowest b)

pub from_one_place : (At : ℕ → Type 0) → OnePlace At → OnePlace (FromOne At)
from_one_place At one p q (j, e, a) (k, f, b) = e ∙ ap suc (one j k a b) ∙ sym f

-- Tests that decide rows.

pub zero_finds : {P : Type 0} (b : Bool) → Tells b P → Finds (zero_if b) (AtZero P)
zero_finds true t p = (λ h. (sym (some-injective 0 p h), t.0 refl), λ a. ap some (sym a.0))
zero_finds false t p = (λ h. absurd (none-ne-some p h), λ a. absurd (true≢false (sym (t.1 a.1))))

-- where the place that is found is one that At has, and none is found where it has none
pub finds_below : {At : ℕ → Type 0} (k n place : ℕ) → OnePlace At → (k < n → At place) → ((p : ℕ) → At p → k < n) → Finds (place_below k n place) At
finds_below {At} k n place one hit back p = by (ltb k n) refl
  where
    by : (b : Bool) → ltb k n ≡ b → (cond b (some place) none ≡ some p) ↔ At p
    by true e =
        let there = hit (ltb-true k n e) in
        (λ h. rw (sym (some-injective place p h)) there, λ a. ap some (one place p there a))
    by false e = (λ h. absurd (none-ne-some p h), λ a. absurd (true≢false (sym (lt-ltb k n (back p a)) ∙ e)))

-- a test that finds the places of one row finds those of another with the same places
pub finds_as : {At Bt : ℕ → Type 0} (found : Option ℕ) → Finds found At → ((p : ℕ) → At p ↔ Bt p) → Finds found Bt
finds_as found f same p = (λ h. (same p).0 ((f p).0 h), λ b. (f p).1 ((same p).1 b))

lowest_back : (holds : ℕ → Bool) (n p : ℕ) → LowestBelow holds n p → lowest holds n < n
lowest_back holds n p a = rw (← lowest_unique _ _ _ _ (is_lowest a) (lowest_is holds n)) a.below

pub lowest_there : (holds : ℕ → Bool) (n : ℕ) → lowest holds n < n → LowestBelow holds n (lowest holds n)
lowest_there holds n l = record { below = l; holds = (lowest_is holds n).hit l; lowest = (lowest_is holds n).missed }

pub lowest_finds_from_one : (holds : ℕ → Bool) (n : ℕ) → Finds (lowest_from_one holds n) (FromOne (LowestBelow holds n))
lowest_finds_from_one holds n =
    finds_below _ n _ (from_one_place _ (lowest_place holds n)) (λ l. (lowest holds n, add-one _, lowest_there holds n l))
    (λ p (k, _, a). lowest_back holds n k a)

-- where a row by a lowest place does not apply, its test holds nowhere; and the other way round
pub none_missed : (holds : ℕ → Bool) (n : ℕ) → ((k : ℕ) → LowestBelow holds n k → ⊥) → Missed holds n
none_missed holds n h = by (dec_lt (lowest holds n) n)
  where
    by : Dec (lowest holds n < n) → Missed holds n
    by (yes l) = absurd (h (lowest holds n) (lowest_there holds n l))
    by (no l) = λ j below. (lowest_is holds n).missed j (omega arith)

pub missed_no : (holds : ℕ → Bool) (n k : ℕ) → Missed holds n → LowestBelow holds n k → ⊥
missed_no holds n k m a = clash (holds k) a.holds (m k a.below)

-- the computed refusal is the one that is due, and there is none exactly where no row applies
pub data Told (rs : List Row) : Refusal → Type 0 where
  due : {n p : ℕ} → Due rs n p → Told rs (given n p)
  none_due : Clear rs → Told rs clear

-- one row more in front, where the rest is told at least when this row does not apply
pub told_more : (t : Test) (ts : List Test) (r : Row) (rs : List Row) → t.number ≡ r.number → Finds t.place r.At
    → ((Applies r → ⊥) → Told rs (first ts)) → Told (r ∷ rs) (first (t ∷ ts))
told_more t ts r rs same finds later = at t.place finds
  where
    at : (x : Option ℕ) → Finds x r.At → Told (r ∷ rs) (pick t.number x (first ts))
    at (some p) h = due (inl (sym same, (h p).0 refl))
    at none h = after (first ts) (later none_applies)
      where
        none_applies : Applies r → ⊥
        none_applies (p, a) = none-ne-some p ((h p).1 a)

        after : (x : Refusal) → Told rs x → Told (r ∷ rs) x
        after (given n p) (due e) = due (inr (none_applies, e))
        after clear (none_due c) = none_due (none_applies, c)

pub told : (ts : List Test) (rs : List Row) → Decided ts rs → Told rs (first ts)
told [] [] d = none_due tt
told [] (r ∷ rs) d = absurd d
told (t ∷ ts) [] d = absurd d
told (t ∷ ts) (r ∷ rs) (d, ds) = told_more t ts r rs d.0 d.1 (λ _. told ts rs ds)

-- What a promise by a table says.

module _ (rows : List Row) (one : AllOnePlace rows) (numbered : AllNumbered rows) {number place : ℕ} {Kept Given : Type 0} where
  -- an answer has the number and place of a refusal exactly when that refusal is due
  pub judged_exactly : Judged rows number place Kept Given → (n p : ℕ) → 1 ≤ n → ((number ≡ n) × (place ≡ p)) ↔ Due rows n p
  judged_exactly (refused d k) n p l = (λ s. subst₂ (Due rows) s.0 s.1 d, λ e. due_unique rows one _ _ n p d e)
  judged_exactly (passed z _ c g) n p l = (λ s. absurd (omega (arith, s.0)), λ e. absurd (due_clear rows n p c e))

  -- its number is 0 exactly when no row applies
  pub judged_clear : Judged rows number place Kept Given → (number ≡ 0) ↔ Clear rows
  judged_clear (refused d k) = (λ z. absurd (omega (arith, due_number rows numbered _ _ d)), λ c. absurd (due_clear rows _ _ c d))
  judged_clear (passed z _ c g) = (λ _. c, λ _. z)

  -- a refusal is due where the number is not 0, and keeps what refusals keep
  pub judged_refused : Judged rows number place Kept Given → 1 ≤ number → Due rows number place × Kept
  judged_refused (refused d k) l = (d, k)
  judged_refused (passed z _ c g) l = absurd (omega arith)

  pub judged_given : Judged rows number place Kept Given → number ≡ 0 → Clear rows × Given
  judged_given (refused d k) z = absurd (omega (arith, due_number rows numbered _ _ d))
  judged_given (passed _ _ c g) z = (c, g)

-- two answers by the same table have the same number and place; both are refusals, or both are given
pub judged_same : (rows : List Row) → AllOnePlace rows → {n p m q : ℕ} {Kept Given Kept' Given' : Type 0}
    → Judged rows n p Kept Given → Judged rows m q Kept' Given' → (n ≡ m) × (p ≡ q) × ((Kept × Kept') ⊎ (Given × Given'))
judged_same rows one (refused d k) (refused e l) = let same = due_unique rows one _ _ _ _ d e in (same.0, same.1, inl (k, l))
judged_same rows one (refused d k) (passed _ _ c g) = absurd (due_clear rows _ _ c d)
judged_same rows one (passed _ _ c g) (refused d k) = absurd (due_clear rows _ _ c d)
judged_same rows one (passed y z c g) (passed v w d h) = (y ∙ sym v, z ∙ sym w, inr (g, h))

-- One table behind another: what is told of the second where no row of the first applies.
pub told_behind : (rs ss : List Row) (x : Refusal) → Clear rs → Told ss x → Told (rs ++ ss) x
told_behind rs ss (given n p) c (due d) = due (due_later rs ss n p c d)
told_behind rs ss clear c (none_due d) = none_due (clear_both rs ss c d)
