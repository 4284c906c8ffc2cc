-- The word of those who must store a credential has exactly their bits.
use Prim.Native.Nat.{ℕ, ◌-◌, ◌^◌, ◌<◌, ◌≤◌}
use native.Mathlib.Omega.{arith}
use mathlib.Core.Path.{◌≡◌, refl, sym}
use mathlib.Core.Bool.{Bool, true, false, cond, ◌||◌, true≢false}
use mathlib.Core.Logic.Iff
use mathlib.Core.Logic.{◌⊎◌, inl, ⊎_elim, ◌↔◌}
use mathlib.Core.List.Memᴰ
use mathlib.Core.List.{List, [], ◌∷◌}
use lib.Bits.{bit_or, or_lt}
use lib.Pow.{pow_pos, pow-lt}
use Rattle.rt0.specs.Credential.{Role, ◌·◌, entity_of, entity, role, link, intersection, Credential, ◌⟵◌, issuer, IsEntity, ValidRole, Valid, ◌∈◌}
use Rattle.rt0.specs.Word.{bit, pick_word}
use Rattle.rt0.proofs.Bits.{bit_zero, bit_or_lem, bit_power}
use Rattle.rt0.proofs.Words.{sum_iff, entity_wider}
use Rattle.base.specs.Range.{outside}
use Rattle.base.proofs.Flags.{Tells, inside, inside_flag}
use Rattle.types.specs.Name.{Types, traces_all, traces_def, subjects_trace}
use Rattle.types.specs.Typed.{head_type, IsSubject}
use Rattle.types.proofs.Names.{issuer_stores, subject_stores}
use Rattle.types.proofs.Parts.{SomePart, some_more}
use Rattle.words.specs.Sizes.{most_entities}
use Rattle.words.specs.Give.{single_of}
use Rattle.storage.specs.Shelves.{HeldOn}
use Rattle.storage.specs.Stored.{parts_word, subjects_word, shelves_word}

-- ---- one entity

single_bit : (B A : ℕ) → IsEntity most_entities B → IsEntity most_entities A → (bit (single_of B) (A - 1) ≡ 1) ↔ (A ≡ B)
unfolding single_of
single_bit B A b a =
    rw (inside_flag most_entities B b.above b.within) (Iff.trans (bit_power (B - 1) (A - 1)) (λ e. omega arith, λ e. omega arith))

single_small : (B : ℕ) → single_of B < 2 ^ most_entities
unfolding single_of
single_small B = by (outside most_entities B) refl
  where
    by : (found : Bool) → outside most_entities B ≡ found → cond found 0 (2 ^ (B - 1)) < 2 ^ most_entities
    by true e = pow_pos most_entities
    by false e = let within = inside most_entities B e in pow-lt {i = B - 1} {j = most_entities} (omega arith)

-- ---- a word where a test holds

picked_bit : {P Q : Type 0} (t : Bool) (v d : ℕ) → Tells t P → (bit v d ≡ 1) ↔ Q → (bit (pick_word t v 0) d ≡ 1) ↔ (P × Q)
picked_bit true v d p q = (λ h. (p.0 refl, q.0 h), λ w. q.1 w.1)
picked_bit false v d p q = (λ h. absurd (omega (arith, bit_zero d)), λ w. absurd (true≢false (sym (p.1 w.0))))

picked_small : (t : Bool) (v : ℕ) → v < 2 ^ most_entities → pick_word t v 0 < 2 ^ most_entities
picked_small true v h = h
picked_small false v h = pow_pos most_entities

or_bit : {P Q : Type 0} (v w d : ℕ) → (bit v d ≡ 1) ↔ P → (bit w d ≡ 1) ↔ Q → (bit (bit_or v w) d ≡ 1) ↔ (P ⊎ Q)
or_bit v w d p q = Iff.trans (bit_or_lem v w d) (sum_iff p q)

-- ---- the subjects

parts_small : (parts : List Role) → parts_word parts < 2 ^ most_entities
parts_small [] = pow_pos most_entities
parts_small (ρ ∷ []) = single_small (entity_of ρ)
parts_small (ρ ∷ σ ∷ ρs) = or_lt most_entities (single_of (entity_of ρ)) (parts_word (σ ∷ ρs)) (single_small (entity_of ρ)) (parts_small (σ ∷ ρs))

module _ (A : ℕ) (a : IsEntity most_entities A) where
  abbrev Here : Role → Type 0
  Here ρ = A ≡ entity_of ρ

  parts_bit : (parts : List Role) → ((ρ : Role) → ρ ∈ parts → IsEntity most_entities (entity_of ρ))
      → (bit (parts_word parts) (A - 1) ≡ 1) ↔ SomePart Here parts
  parts_bit [] v = (λ h. absurd (omega (arith, bit_zero (A - 1))), λ w. absurd (Memᴰ.not-nil w.1))
  parts_bit (ρ ∷ []) v = Iff.trans (single_bit (entity_of ρ) A (v ρ (Memᴰ.head refl)) a) (
    λ e. (some_more Here ρ []).0 (inl e),
    λ w. ⊎_elim (λ e. e) (λ n. absurd (Memᴰ.not-nil n.1)) ((some_more Here ρ []).1 w),
  )
  parts_bit (ρ ∷ σ ∷ ρs) v =
      Iff.trans
      (or_bit (single_of (entity_of ρ)) (parts_word (σ ∷ ρs)) (A - 1) (single_bit (entity_of ρ) A (v ρ (Memᴰ.head refl)) a)
      (parts_bit (σ ∷ ρs) (λ τ i. v τ (Memᴰ.tail i))))
      (some_more Here ρ (σ ∷ ρs))

subjects_small : (c : Credential) → subjects_word c < 2 ^ most_entities
subjects_small (A · r ⟵ entity B) = single_small B
subjects_small (A · r ⟵ role ρ) = single_small (entity_of ρ)
subjects_small (A · r ⟵ link r1 r2) = single_small A
subjects_small (A · r ⟵ intersection parts) = parts_small parts

-- a role of a valid credential is that of an entity
role_entity : (E R : ℕ) → E ≤ most_entities → (ρ : Role) → ValidRole E R ρ → IsEntity most_entities (entity_of ρ)
role_entity E R e (A · r) v = entity_wider (omega arith) v.0

module _ (E R : ℕ) (e : E ≤ most_entities) (A : ℕ) (a : IsEntity most_entities A) where
  subjects_bit : (c : Credential) → Valid E R c → (bit (subjects_word c) (A - 1) ≡ 1) ↔ IsSubject c A
  subjects_bit (B · r ⟵ entity C) v = single_bit C A (entity_wider (omega arith) v.1) a
  subjects_bit (B · r ⟵ role ρ) v = single_bit (entity_of ρ) A (role_entity E R e ρ v.1) a
  subjects_bit (B · r ⟵ link r1 r2) v = single_bit B A (entity_wider (omega arith) v.0.0) a
  subjects_bit (B · r ⟵ intersection parts) v = parts_bit A a parts (λ ρ i. role_entity E R e ρ (v.1.2 ρ i))

  issuer_bit : (c : Credential) → Valid E R c → (bit (single_of (issuer c)) (A - 1) ≡ 1) ↔ (A ≡ issuer c)
  issuer_bit (ρ ⟵ body) v = single_bit (entity_of ρ) A (role_entity E R e ρ v.0) a

-- ---- those who must store

pub held_on : (E R : ℕ) → E ≤ most_entities → (T : Types) (c : Credential) → Valid E R c → HeldOn T c (shelves_word T c)
held_on E R e T c v = record {
  each = λ A a.
      or_bit (pick_word stores (single_of (issuer c)) 0) (pick_word keeps (subjects_word c) 0) (A - 1)
      (picked_bit stores (single_of (issuer c)) (A - 1) (issuer_stores (head_type T c).on_issuer) (issuer_bit E R e A a c v))
      (picked_bit keeps (subjects_word c) (A - 1) (subject_stores (head_type T c)) (subjects_bit E R e A a c v));
  small = or_lt most_entities (pick_word stores (single_of (issuer c)) 0) (pick_word keeps (subjects_word c) 0)
      (picked_small stores (single_of (issuer c)) (single_small (issuer c))) (picked_small keeps (subjects_word c) (subjects_small c));
}
  where
    stores : Bool
    stores = traces_def (head_type T c).on_issuer || traces_all (head_type T c).on_issuer

    keeps : Bool
    keeps = subjects_trace (head_type T c).on_subject
