-- The premises that are found are those that a line needs: the lowest entity between two parts of a link is one that is between them, and each
-- form's lines are those of its parts.
use Rattle.std.specs.Prelude.{Option, Some, None}
use Prim.Native.Nat.{ℕ, zero, suc, ◌+◌, ◌-◌, ◌<◌, ◌≤◌, min}
use native.Mathlib.Decide.{dec_lt}
use native.Mathlib.Numerals.{add-one}
use native.Mathlib.Omega.{arith}
use mathlib.Core.Path.{◌≡◌, refl}
use mathlib.Core.Bool.{Bool, true, false, and-eq-true_iff}
use mathlib.Core.Logic.{⊎_elim}
use mathlib.Core.List.{List}
use lib.Dec.{eqb}
use borrow.Author.Tests.{eqb-true}
use Rattle.rt0.specs.Credential.{IsEntity}
use Rattle.rt0.specs.Word.{bit, pick_word}
use Rattle.rt0.proofs.Bits.{bit_zero, bit_or_lem}
use Rattle.records.specs.declared.form.Record.{Record}
use Rattle.records.specs.declared.form.Record.TheVariants as variant
use Rattle.records.specs.Form.{credential_of}
use Rattle.base.specs.Lowest.{lowest}
use Rattle.base.proofs.Flags.{inside_flag}
use Rattle.base.proofs.Lowest.{lowest_is, clash}
use Rattle.words.specs.Sizes.{most_entities}
use Rattle.words.specs.Give.{word_of, link_of, give_of}
use Rattle.premises.specs.Premise.{is_between, lowest_between, link_premises, premises_in, premises_by, Between, PremisesOf}

-- ---- the entity between

-- the lowest is no higher than any at which the test holds
lowest_most : (test : ℕ → Bool) (n y : ℕ) → test y ≡ true → lowest test n ≤ y
lowest_most test n y t = by (dec_lt y (lowest test n))
  where
    by : Dec (y < lowest test n) → lowest test n ≤ y
    by (yes l) = absurd (clash (test y) t ((lowest_is test n).missed y l))
    by (no l) = omega arith

-- who is in a link's word is in the role of a member of its first word
module _ (ws : List ℕ) (w r2 d : ℕ) where
  link_found : (n : ℕ) → bit (link_of ws w r2 n) d ≡ 1 → (x : ℕ) × (x < n) × (bit w x ≡ 1) × (bit (word_of ws (suc x) r2) d ≡ 1)
  unfolding link_of
  link_found zero h = absurd (omega (arith, bit_zero d))
  link_found (suc n) h =
      ⊎_elim (λ o. let (x, l, a, b) = link_found n o in (x, omega arith, a, b)) (last (eqb (bit w n) 1) refl)
      ((bit_or_lem (link_of ws w r2 n) (pick_word (eqb (bit w n) 1) (word_of ws (suc n) r2) 0) d).0 h)
    where
      last : (t : Bool) → eqb (bit w n) 1 ≡ t → bit (pick_word t (word_of ws (suc n) r2) 0) d ≡ 1
          → (x : ℕ) × (x < suc n) × (bit w x ≡ 1) × (bit (word_of ws (suc x) r2) d ≡ 1)
      last true e o = (n, omega arith, eqb-true (bit w n) 1 e, o)
      last false e o = absurd (omega (arith, bit_zero d))

module _ (E : ℕ) (e : E ≤ most_entities) (ws : List ℕ) (D : ℕ) where
  between_hit : (w r2 x : ℕ) → x < E → is_between ws w r2 D x ≡ true → Between E ws w r2 D (x + 1)
  between_hit w r2 x l e =
      let both = (and-eq-true_iff (eqb (bit w x) 1) (eqb (bit (word_of ws (x + 1) r2) (D - 1)) 1)).0 e in
      let same : x + 1 - 1 ≡ x = omega arith in
      record {
        is = omega arith;
        first = rw same (eqb-true (bit w x) 1 both.0);
        second = eqb-true (bit (word_of ws (x + 1) r2) (D - 1)) 1 both.1;
      }

  -- where D is in the link's word there is one between
  between_there : (w r2 : ℕ) → bit (link_of ws w r2 E) (D - 1) ≡ 1 → Between E ws w r2 D (lowest_between ws w r2 D)
  between_there w r2 h =
      let (y, l, a, b) = link_found ws w r2 (D - 1) E h in
      let test : is_between ws w r2 D y ≡ true = rw (a, add-one y, b) in
      let most = lowest_most (is_between ws w r2 D) most_entities y test in
      between_hit w r2 (lowest (is_between ws w r2 D) most_entities) (omega arith)
      ((lowest_is (is_between ws w r2 D) most_entities).hit (omega arith))

  -- ---- each form

  module _ (index : List ℕ) where
    in_found : (k : Option Record) → bit (give_of E ws k) (D - 1) ≡ 1 → PremisesOf E ws index (credential_of k) D (premises_in ws index k D)
    unfolding give_of premises_in link_premises
    in_found (Some (variant.Entity h B)) g = (refl, (refl, (refl, tt)))
    in_found (Some (variant.Role h ρ)) g = (refl, (refl, (refl, tt)))
    in_found (Some (variant.Link h r1 r2)) g =
        let least : min E most_entities ≡ E = omega arith in
        let w = word_of ws h.entity r1 in
        (lowest_between ws w r2 D, between_there w r2 (rw least at g), refl, refl, (refl, tt))
    in_found (Some (variant.TwoParts h ρ σ)) g = (refl, (refl, (refl, tt)))
    in_found (Some (variant.ThreeParts h ρ σ τ)) g = (refl, (refl, (refl, tt)))
    in_found None g = tt

    -- for a record that gives D from the words
    pub premises_found : IsEntity most_entities D → (k : Option Record) → bit (give_of E ws k) (D - 1) ≡ 1
        → PremisesOf E ws index (credential_of k) D (premises_by ws index k D)
    unfolding premises_by
    premises_found d k g = rw (inside_flag most_entities D d.above d.within) (in_found k g)
