-- The tests are RT0's rules. A line of a slip over valid credentials passes the test of its three premises exactly when it is right
-- given the earlier lines; so every line passes exactly when the slip is right, and the last line's test tells what it states.
use Prim.Native.Nat.{ℕ, zero, suc, ◌*◌, ◌<◌, ◌≤◌}
use native.Mathlib.Omega.{arith}
use mathlib.Core.Path.{◌≡◌, refl, sym, ◌∙◌}
use mathlib.Core.Bool.{true, false, not, ◌&&◌, ◌||◌, true≢false, false≢true}
use mathlib.Core.Logic.{◌↔◌}
use mathlib.Core.Option.{Option, none, some, some-injective}
use mathlib.Core.List.{List, [], ◌∷◌}
use borrow.Author.Tests.{eqb-true, eq-eqb, not-false}
use lib.ListN.{get_elem?, take, length}
use lib.Dec.{eqb}
use Rattle.rt0.specs.Credential.{Role, ◌·◌, entity, role, link, intersection, Credential, ◌⟵◌, Valid, AllValid}
use Rattle.rt0.specs.Book.{Book, item, NamesOnly}
use Rattle.rt0.specs.Slip.{Line, line, Fact, ◌∋◌, stated, Says, Follows, RightLine, RightSlip}
use Rattle.rt0.specs.Bytes.{line_from, lines_of}
use Rattle.rt0.proofs.Items.{item_within}
use Rattle.rt0.proofs.SlipBytes.{length_lines_of, take_lines_of, lines_of_at}
use Rattle.rt0.proofs.Tests.{both_true}
use Rattle.base.proofs.Lowest.{Missed, any_none, any_false}
use Rattle.base.proofs.Flags.{or_false}
use Rattle.checker.specs.Premise.{same_fact, member_of, premise_of, wanted_at, useless, misses, premise_wrong, premise_wrong_at, line_wrong}
use Rattle.checker.specs.Checking.{last_states}

-- What a premise's test tells.

pub same_fact_lem : (o : Option Fact) (f : Fact) → same_fact o f ≡ true → o ≡ some f
same_fact_lem none f h = absurd (false≢true h)
same_fact_lem (some (A · r ∋ D)) (B · s ∋ X) h =
    let (role_same, member_same) = both_true (eqb A B && eqb r s) (eqb D X) h in
    let (entity_same, name_same) = both_true (eqb A B) (eqb r s) role_same in
    cc (eqb-true A B entity_same, eqb-true r s name_same, eqb-true D X member_same)

pub fact_same : (o : Option Fact) (f : Fact) → o ≡ some f → same_fact o f ≡ true
fact_same o (B · s ∋ X) e = rw (e, eq-eqb B B refl, eq-eqb s s refl, eq-eqb X X refl)

-- a premise that is not wrong: 0 where nothing is wanted, and else it states what is wanted

zero_told : (p : ℕ) → not (eqb p 0) ≡ false → p ≡ 0
zero_told p h = eqb-true p 0 (not-false (eqb p 0) h)

zero_passes : (p : ℕ) → p ≡ 0 → not (eqb p 0) ≡ false
zero_passes p e = rw (eq-eqb p 0 e)

fact_told : (found : Option Fact) (f : Fact) → not (same_fact found f) ≡ false → found ≡ some f
fact_told found f h = same_fact_lem found f (not-false (same_fact found f) h)

fact_passes : (found : Option Fact) (f : Fact) → found ≡ some f → not (same_fact found f) ≡ false
fact_passes found f e = rw (fact_same found f e)

-- A line, from the tests of its three premises.

module _ (book : Book) (earlier : List Line) (D c p q s : ℕ) where
  -- premise j passes, by the credential that the line names, if there is one
  abbrev Passes : Option Credential → ℕ → Type 0
  Passes k j =
      let X = member_of (stated book (item earlier p)) in
      let n = premise_of (line D c p q s) j in
      (useless k D || misses (wanted_at k D X j) (stated book (item earlier n)) n) ≡ false

  record AllPass (k : Option Credential) : Type 0 where
    first : Passes k 0
    second : Passes k 1
    third : Passes k 2

  passes_follows : (E R : ℕ) (k : Credential) → Valid E R k → AllPass (some k) → Follows book earlier k D p q s
  passes_follows E R (A · r ⟵ entity B) v a =
      let (same, first) = or_false (not (eqb D B)) _ a.first in
      let (_, second) = or_false (not (eqb D B)) _ a.second in
      let (_, third) = or_false (not (eqb D B)) _ a.third in
      (eqb-true D B (not-false (eqb D B) same), (zero_told p first, (zero_told q second, (zero_told s third, tt))))
  passes_follows E R (A · r ⟵ role ρ) v a = (fact_told _ _ a.first, (zero_told q a.second, (zero_told s a.third, tt)))
  passes_follows E R (A · r ⟵ link r1 r2) v a =
      (member_of (stated book (item earlier p)), fact_told _ _ a.first, fact_told _ _ a.second, (zero_told s a.third, tt))
  passes_follows E R (A · r ⟵ intersection []) v a =
      (zero_told p a.first, (zero_told q a.second, (zero_told s a.third, tt)))
  passes_follows E R (A · r ⟵ intersection (ρ ∷ [])) v a =
      (fact_told _ _ a.first, (zero_told q a.second, (zero_told s a.third, tt)))
  passes_follows E R (A · r ⟵ intersection (ρ ∷ σ ∷ [])) v a =
      (fact_told _ _ a.first, (fact_told _ _ a.second, (zero_told s a.third, tt)))
  passes_follows E R (A · r ⟵ intersection (ρ ∷ σ ∷ τ ∷ [])) v a =
      (fact_told _ _ a.first, (fact_told _ _ a.second, (fact_told _ _ a.third, tt)))
  passes_follows E R (A · r ⟵ intersection (ρ ∷ σ ∷ τ ∷ υ ∷ ρs)) v a = absurd (omega (arith, v.1.1))

  follows_passes : (k : Credential) → Follows book earlier k D p q s → AllPass (some k)
  follows_passes (A · r ⟵ entity B) (same, (first, (second, (third, _)))) =
      let e = eq-eqb D B same in
      record { first = rw e (zero_passes p first); second = rw e (zero_passes q second); third = rw e (zero_passes s third) }
  follows_passes (A · r ⟵ role ρ) (first, (second, (third, _))) =
      record { first = fact_passes _ _ first; second = zero_passes q second; third = zero_passes s third }
  follows_passes (A · r ⟵ link r1 r2) (X, first, second, (third, _)) =
      record { first = rw first (fact_passes _ (A · r1 ∋ X) refl); second = rw first (fact_passes _ _ second); third = zero_passes s third }
  follows_passes (A · r ⟵ intersection []) (first, (second, (third, _))) =
      record { first = zero_passes p first; second = zero_passes q second; third = zero_passes s third }
  follows_passes (A · r ⟵ intersection (ρ ∷ [])) (first, (second, (third, _))) =
      record { first = fact_passes _ _ first; second = zero_passes q second; third = zero_passes s third }
  follows_passes (A · r ⟵ intersection (ρ ∷ σ ∷ [])) (first, (second, (third, _))) =
      record { first = fact_passes _ _ first; second = fact_passes _ _ second; third = zero_passes s third }
  follows_passes (A · r ⟵ intersection (ρ ∷ σ ∷ τ ∷ [])) (first, (second, (third, _))) =
      record { first = fact_passes _ _ first; second = fact_passes _ _ second; third = fact_passes _ _ third }
  follows_passes (A · r ⟵ intersection (ρ ∷ σ ∷ τ ∷ υ ∷ ρs)) (first, (second, (third, no_premise))) = absurd no_premise

  -- the credential that a line names is there, where its first premise passes
  credential_there : (k : Option Credential) → Passes k 0 → (x : Credential) × (k ≡ some x)
  credential_there none h = absurd (true≢false h)
  credential_there (some x) h = (x, refl)

  all_pass : Missed (premise_wrong book earlier (line D c p q s)) 3 → AllPass (book c)
  unfolding premise_wrong
  all_pass h = record { first = h 0 (omega arith); second = h 1 (omega arith); third = h 2 (omega arith) }

  missed : AllPass (book c) → Missed (premise_wrong book earlier (line D c p q s)) 3
  unfolding premise_wrong
  missed a zero l = a.first
  missed a (suc zero) l = a.second
  missed a (suc (suc zero)) l = a.third
  missed a (suc (suc (suc j))) l = absurd (omega arith)

-- the three premises of a line are right exactly when the line is
pub premises_right : (E R : ℕ) (cs : List Credential) → AllValid E R cs → (book : Book) → NamesOnly book cs → (earlier : List Line) (l : Line)
    → Missed (premise_wrong book earlier l) 3 ↔ RightLine book earlier l
premises_right E R cs v book only earlier (line D c p q s) = (right, passes)
  where
    right : Missed (premise_wrong book earlier (line D c p q s)) 3 → RightLine book earlier (line D c p q s)
    right h =
        let a = all_pass book earlier D c p q s h in
        let (k, e) = credential_there book earlier D c p q s (book c) a.first in
        (k, e, passes_follows book earlier D c p q s E R k (v k (only c k e)) (rw e at a))

    passes : RightLine book earlier (line D c p q s) → Missed (premise_wrong book earlier (line D c p q s)) 3
    passes (k, e, f) = missed book earlier D c p q s (rw e (follows_passes book earlier D c p q s k f))

-- The lines of a slip, as bytes.

-- line i of n is the line that starts at byte 8 i
pub line_at : (slip : List ℕ) (n i : ℕ) (l : Line) → get_elem? (lines_of slip n) i ≡ some l → (i < n) × (l ≡ line_from slip (8 * i))
line_at slip n i l e =
    let inside : i < n = omega (arith, item_within (lines_of slip n) i l e, length_lines_of slip n) in
    (inside, some-injective l (line_from slip (8 * i)) (sym e ∙ lines_of_at slip i n inside))

module _ (E R : ℕ) (cs : List Credential) (v : AllValid E R cs) (book : Book) (only : NamesOnly book cs) (slip : List ℕ) (n : ℕ) where
  -- line i of n passes exactly when it is right given the lines before it
  pub line_right : (i : ℕ) → i ≤ n → (line_wrong book slip i ≡ false) ↔ RightLine book (take i (lines_of slip n)) (line_from slip (8 * i))
  unfolding line_wrong
  line_right i l =
      let (right, passes) = premises_right E R cs v book only (lines_of slip i) (line_from slip (8 * i)) in
      rw (take_lines_of slip i n l) (
        λ h. right (any_false (premise_wrong_at book slip i) 3 h),
        λ h. sym (any_none (premise_wrong_at book slip i) 3 3 (omega arith) (omega arith) (passes h)),
      )

  pub slip_right : Missed (line_wrong book slip) n ↔ RightSlip book (lines_of slip n)
  slip_right = (right, passes)
    where
      right : Missed (line_wrong book slip) n → RightSlip book (lines_of slip n)
      right h i l e = let (inside, same) = line_at slip n i l e in rw same ((line_right i (omega arith)).0 (h i inside))

      passes : RightSlip book (lines_of slip n) → Missed (line_wrong book slip) n
      passes h i l = (line_right i (omega arith)).1 (h i (line_from slip (8 * i)) (lines_of_at slip i n l))

-- the last of n lines states the fact
pub last_right : (book : Book) (slip : List ℕ) (n : ℕ) (ρ : Role) (D : ℕ)
    → (last_states book ρ D slip n ≡ true) ↔ Says book (lines_of slip n) (length (lines_of slip n)) (ρ ∋ D)
last_right book slip n ρ D = rw length_lines_of (same_fact_lem _ _, fact_same _ _)
