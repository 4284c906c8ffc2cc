-- What the code reads is what the definitions say: a credential by its number, a line, its premises, and what each has to state.
-- These laws serve the functions' own proofs.
use Rattle.std.specs.Prelude.{Option as Maybe, Some, None}
use Prim.Native.Nat.{ℕ, zero, suc, ◌+◌, ◌-◌, ◌*◌, ◌<◌, ◌≤◌}
use native.Mathlib.Nat.{add_assoc}
use native.Mathlib.Omega.{arith}
use mathlib.Core.Path.{◌≡◌, refl, sym, ◌∙◌}
use mathlib.Core.Bool.{true, false}
use mathlib.Core.Option.{Option, none, some}
use mathlib.Core.List.{List, [], ◌∷◌}
use borrow.Author.Tests.{ltb-true, ne_eqb}
use lib.ListN.{length, get_elem?, get_or}
use Rattle.rt0.specs.Credential.{Credential, head}
use Rattle.rt0.specs.Book.{Book, item}
use Rattle.rt0.specs.Slip.{Line, line, Fact, fact_of, stated}
use Rattle.rt0.specs.Bytes.{line_from, lines_of}
use Rattle.rt0.proofs.SlipBytes.{length_lines_of, lines_of_at}
use Rattle.base.specs.Range.{outside}
use Rattle.base.specs.Lowest.{lowest}
use Rattle.base.proofs.Lowest.{Missed, missed_more, lowest_hit, any_hit, any_none}
use Rattle.base.proofs.Flags.{inside}
use Rattle.records.specs.declared.form.Role.{Role}
use Rattle.records.specs.declared.form.Record.{Record}
use Rattle.records.specs.Form.{role_of, head_of, head_role, head_maybe, credential_of}
use Rattle.records.proofs.Heads.{head_credential}
use Rattle.bundle.specs.declared.read.Sizes.{Sizes}
use Rattle.bundle.specs.Layout.{records_of}
use Rattle.bundle.specs.Rows.{Accepts}
use Rattle.bundle.specs.Access.{record_of}
use Rattle.bundle.specs.Held.{held, book_in}
use Rattle.bundle.proofs.Accepted.{accepted_contents, length_credentials, record_credential}
use Rattle.checker.specs.declared.claim.Claim.{Claim}
use Rattle.checker.specs.Premise.{member_of, premise_of, wanted_at, useless, misses, premise_wrong, premise_wrong_at, line_wrong}
use Rattle.checker.specs.Claim.{fact_in, claim_of, pick_claim}

-- Items by number.

no_item : {A : Type 0} (l : List A) (n : ℕ) → length l ≤ n → get_elem? l n ≡ none
no_item [] n h = refl
no_item (x ∷ l) zero h = absurd (omega arith)
no_item (x ∷ l) (suc n) h = no_item l n (omega arith)

item_outside : {A : Type 0} (l : List A) (m n : ℕ) → length l ≡ m → outside m n ≡ true → item l n ≡ none
item_outside l m zero e h = refl
item_outside l m (suc n) e h =
    let nonzero : suc n ≡ 0 → ⊥ = λ z. omega arith in
    no_item l n (omega (arith, ltb-true m (suc n) (rw (ne_eqb (suc n) 0 nonzero) at h)))

module _ (bytes : List ℕ) (s : Sizes) (h : Accepts bytes s) where
  pub credential_outside : (c : ℕ) → outside s.records c ≡ true → none ≡ book_in bytes c
  credential_outside c l =
      let size : length (held bytes) ≡ s.records = length_credentials bytes (records_of bytes) ∙ sym (accepted_contents bytes s h).records in
      sym (item_outside (held bytes) s.records c size l)

  pub credential_inside : (c : ℕ) (k : Maybe Record) → outside s.records c ≡ false → k ≡ record_of bytes c → credential_of k ≡ book_in bytes c
  credential_inside c k l e =
      let (above, within) = inside s.records c l in
      rw e (record_credential bytes s h c above within)

-- What a line states with a credential and a member.

claimed : (member : ℕ) (o : Option Credential) (h : Maybe Role) → head_role h ≡ head_maybe o → fact_in (claim_of member h) ≡ fact_of member o
claimed member none (Some ρ) e = let z : ◌≡◌ {A = ℕ} 0 1 = cc in absurd (omega arith)
claimed member none None e = refl
claimed member (some k) (Some ρ) e = let same : role_of ρ ≡ head k = cc in rw same
claimed member (some k) None e = let z : ◌≡◌ {A = ℕ} 0 1 = cc in absurd (omega arith)

pub claim_stated : (k : Maybe Record) (h : Maybe Role) (member : ℕ) → h ≡ head_of k → fact_in (claim_of member h) ≡ fact_of member (credential_of k)
claim_stated k h member e = claimed member (credential_of k) h (rw e (head_credential k))

-- What line number p of n states: nothing where there is no such line, and else what its credential and member say.

pub stated_outside : (book : Book) (slip : List ℕ) (n p : ℕ) → outside n p ≡ true → none ≡ stated book (item (lines_of slip n) p)
stated_outside book slip n p h = rw (item_outside (lines_of slip n) n p (length_lines_of slip n) h)

line_inside : (slip : List ℕ) (n p : ℕ) → outside n p ≡ false → item (lines_of slip n) p ≡ some (line_from slip (8 * (p - 1)))
line_inside slip n zero h = absurd (omega (arith, inside n zero h))
line_inside slip n (suc m) h =
    let same : suc m - 1 ≡ m = omega arith in
    rw same (lines_of_at slip m n (omega (arith, inside n (suc m) h)))

pub stated_inside : (book : Book) (slip : List ℕ) (n p member number : ℕ) (k : Option Credential) (f : Option Fact)
    → outside n p ≡ false → number ≡ get_or slip (8 * (p - 1) + 1) 0 → member ≡ get_or slip (8 * (p - 1)) 0
    → k ≡ book number → f ≡ fact_of member k → f ≡ stated book (item (lines_of slip n) p)
stated_inside book slip n p member number k f h number_is member_is k_is f_is =
    rw (line_inside slip n p h, ← number_is, ← member_is, ← k_is) f_is

-- Premises and what they have to state.

pub premise_read : (slip : List ℕ) (i j : ℕ) → j < 3
    → get_or slip (8 * i + 2 + 2 * j) 0 + 256 * get_or slip (8 * i + 2 + 2 * j + 1) 0 ≡ premise_of (line_from slip (8 * i)) j
premise_read slip i zero h = simp add_assoc
premise_read slip i (suc zero) h = simp add_assoc
premise_read slip i (suc (suc zero)) h = simp add_assoc
premise_read slip i (suc (suc (suc j))) h = absurd (omega arith)

pub pick_last : (j : ℕ) (first second third : Maybe Claim) → (j ≡ 0 → ⊥) → (j ≡ 1 → ⊥) → third ≡ pick_claim j first second third
pick_last zero first second third h k = absurd (h refl)
pick_last (suc zero) first second third h k = absurd (k refl)
pick_last (suc (suc j)) first second third h k = refl

pub picked : (j : ℕ) (first second third : Maybe Claim) (facts : List Fact) → j < 3
    → fact_in first ≡ get_elem? facts 0 → fact_in second ≡ get_elem? facts 1 → fact_in third ≡ get_elem? facts 2
    → fact_in (pick_claim j first second third) ≡ get_elem? facts j
picked zero first second third facts h a b c = a
picked (suc zero) first second third facts h a b c = b
picked (suc (suc zero)) first second third facts h a b c = c
picked (suc (suc (suc j))) first second third facts h a b c = absurd (omega arith)

-- A premise, from what the code has read of its line: the member and the credential k; the first premise f, what it states, and so
-- which member X it is about; the premise n, what it states and what is wanted.

module _ (book : Book) (earlier : List Line) (D c p q s j : ℕ) (member number : ℕ) (k : Option Credential)
    (member_is : member ≡ D) (number_is : number ≡ c) (k_is : k ≡ book number) where
  pub premise_useless : useless k member ≡ true → true ≡ premise_wrong book earlier (line D c p q s) j
  unfolding premise_wrong
  premise_useless u = rw (← number_is, ← k_is, ← member_is, u)

  pub premise_judged : (f X n : ℕ) (first found wanted : Option Fact) → useless k member ≡ false → f ≡ p
      → first ≡ stated book (item earlier f) → X ≡ member_of first → n ≡ premise_of (line D c p q s) j
      → wanted ≡ wanted_at k member X j → found ≡ stated book (item earlier n)
      → misses wanted found n ≡ premise_wrong book earlier (line D c p q s) j
  unfolding premise_wrong
  premise_judged f X n first found wanted useful f_is first_is X-is n_is wanted_is found_is =
      rw (← n_is, ← found_is, ← f_is, ← first_is, ← X-is, ← number_is, ← k_is, ← member_is, ← wanted_is, useful)

-- A line, by its premises: where one is wrong it is the first wrong line, and where all three are right it is passed.

pub line_found : (book : Book) (slip : List ℕ) (n i j : ℕ) → i < n → j < 3 → Missed (line_wrong book slip) i
    → Missed (premise_wrong_at book slip i) j → premise_wrong_at book slip i j ≡ true → i ≡ lowest (line_wrong book slip) n
unfolding line_wrong
line_found book slip n i j l k lines premises wrong =
    lowest_hit (line_wrong book slip) n i l lines (sym (any_hit (premise_wrong_at book slip i) 3 j k premises wrong))

pub line_passed : (book : Book) (slip : List ℕ) (i j : ℕ) → j ≤ 3 → 3 ≤ j → Missed (line_wrong book slip) i
    → Missed (premise_wrong_at book slip i) j → Missed (line_wrong book slip) (i + 1)
unfolding line_wrong
line_passed book slip i j l m lines premises =
    missed_more (line_wrong book slip) i lines (sym (any_none (premise_wrong_at book slip i) 3 j l m premises))
