-- What a test tells where it is true or false, and which of several tests hold.
use Prim.Native.Nat.{ℕ, ◌<◌, ◌≤◌}
use mathlib.Core.Path.{◌≡◌, refl, sym, ◌∙◌}
use mathlib.Core.Bool.{Bool, true, false, not, ◌&&◌, ◌||◌, true≢false}
use mathlib.Core.Logic.{◌⊎◌, inl, inr, ⊎_elim, ⊎_map, ◌↔◌}
use native.Mathlib.Omega.{arith}
use lib.Dec.{eqb, ltb}
use borrow.Author.Tests.{lt-ltb, le-ltb, eq-eqb, ne_eqb, eqb-true, eqb-false, ltb-true, ltb-false}
use Rattle.base.specs.Range.{Outside, outside}

pub or_false : (a b : Bool) → (a || b) ≡ false → (a ≡ false) × (b ≡ false)
or_false true b h = absurd (true≢false h)
or_false false b h = (refl, h)

pub both_false : (a b : Bool) → a ≡ false → b ≡ false → (a || b) ≡ false
both_false true b h k = absurd (true≢false h)
both_false false b h k = k

-- where a test applies, what it asks for holds
pub and_false : (applies wrong : Bool) → (applies && wrong) ≡ false → applies ≡ true → wrong ≡ false
and_false true wrong h e = h
and_false false wrong h e = absurd (true≢false (cc))

-- where it does not apply, or what it asks for holds, it is false
pub and_left : (applies wrong : Bool) → applies ≡ false → (applies && wrong) ≡ false
and_left true wrong h = absurd (true≢false h)
and_left false wrong h = refl

pub and_right : (applies wrong : Bool) → wrong ≡ false → (applies && wrong) ≡ false
and_right true wrong h = h
and_right false wrong h = refl

-- a byte that is not neither of two numbers is one of them
pub either : (b m n : ℕ) → (not (eqb b m) && not (eqb b n)) ≡ false → (b ≡ m) ⊎ (b ≡ n)
either b m n h = equal (eqb b m) (eqb b n) refl refl h
  where
    equal : (p q : Bool) → eqb b m ≡ p → eqb b n ≡ q → (not p && not q) ≡ false → (b ≡ m) ⊎ (b ≡ n)
    equal true q e f h = inl (eqb-true b m e)
    equal false true e f h = inr (eqb-true b n f)
    equal false false e f h = absurd (true≢false h)

pub inside : (most b : ℕ) → outside most b ≡ false → (1 ≤ b) × (b ≤ most)
inside most b h =
    let (z, l) = or_false (eqb b 0) (ltb most b) h in
    let nonzero : b ≡ 0 → ⊥ = eqb-false b 0 z in
    let within : b ≤ most = ltb-false most b l in
    omega arith

pub inside_flag : (most b : ℕ) → 1 ≤ b → b ≤ most → outside most b ≡ false
inside_flag most b l m =
    let nonzero : b ≡ 0 → ⊥ = λ e. omega arith in
    rw (ne_eqb b 0 nonzero, le-ltb most b m)

pub above_flag : (most b : ℕ) → most < b → outside most b ≡ true
above_flag most b l =
    let nonzero : b ≡ 0 → ⊥ = λ e. omega arith in
    rw (ne_eqb b 0 nonzero, lt-ltb most b l)

-- one of two, and of three, tests that are not all false holds
pub or_true : (a b : Bool) → (a || b) ≡ true → (a ≡ true) ⊎ (b ≡ true)
or_true true b h = inl refl
or_true false b h = inr h

pub one_of_three : (a b c : Bool) → (a || b || c) ≡ true → (a ≡ true) ⊎ ((b ≡ true) ⊎ (c ≡ true))
one_of_three true b c h = inl refl
one_of_three false b c h = inr (or_true b c h)

-- a test that computes a statement: true exactly if it holds
abbrev pub Tells : Bool → Type 0 → Type 0
Tells b P = (b ≡ true) ↔ P

or_first : (a b : Bool) → a ≡ true → (a || b) ≡ true
or_first true b h = refl
or_first false b h = absurd (true≢false (sym h))

or_second : (a b : Bool) → b ≡ true → (a || b) ≡ true
or_second true b h = refl
or_second false b h = h

pub or_tells : {P Q : Type 0} (a b : Bool) → Tells a P → Tells b Q → Tells (a || b) (P ⊎ Q)
or_tells a b p q = (λ h. ⊎_map p.0 q.0 (or_true a b h), ⊎_elim (λ x. or_first a b (p.1 x)) (λ y. or_second a b (q.1 y)))

-- of three, the first two stand together
pub or_tells_three : {P Q S : Type 0} (a b c : Bool) → Tells a P → Tells b Q → Tells c S → Tells (a || b || c) (P ⊎ (Q ⊎ S))
or_tells_three a b c p q s = (
  λ h. ⊎_map p.0 (⊎_map q.0 s.0) (one_of_three a b c h),
  ⊎_elim (λ x. or_first (a || b) c (or_first a b (p.1 x)))
      (⊎_elim (λ y. or_first (a || b) c (or_second a b (q.1 y))) (λ z. or_second (a || b) c (s.1 z))),
)

pub outside_tells : (most b : ℕ) → Tells (outside most b) (Outside most b)
outside_tells most b = or_tells (eqb b 0) (ltb most b) (eqb-true b 0, eq-eqb b 0) (ltb-true most b, lt-ltb most b)

-- a test that is not true is false
pub not_true_false : (b : Bool) → (b ≡ true → ⊥) → b ≡ false
not_true_false true h = absurd (h refl)
not_true_false false h = refl

pub not_tells : {P : Type 0} (b : Bool) → Tells b P → Tells (not b) (P → ⊥)
not_tells true t = (λ h p. absurd (true≢false (sym h)), λ n. absurd (n (t.0 refl)))
not_tells false t = (λ h p. absurd (true≢false (sym (t.1 p))), λ n. refl)

-- two numbers are equal, and one is below another
pub eq_tells : (m n : ℕ) → Tells (eqb m n) (m ≡ n)
eq_tells m n = (eqb-true m n, eq-eqb m n)

pub lt_tells : (m n : ℕ) → Tells (ltb m n) (m < n)
lt_tells m n = (ltb-true m n, lt-ltb m n)

-- a flag tells that it is true
pub flag_tells : (b : Bool) → Tells b (b ≡ true)
flag_tells b = (λ h. h, λ h. h)

-- no flag is both
pub clash_flag : {b : Bool} → b ≡ true → b ≡ false → ⊥
clash_flag h k = true≢false (sym h ∙ k)
