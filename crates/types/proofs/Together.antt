-- Why an intersection is left out of proofs/Traced: the smallest list of structurally well typed credentials where leaving out those whose
-- heads are not issuer-traces-all takes a member from a role that is. Name 1 and name 2 are issuer-traces-all, name 3 is issuer-traces-def;
-- of the parts of 1.1 one is enough to make the body issuer-traces-all, but a member has to be in both.
use Prim.Native.Nat.{ℕ}
use native.Mathlib.Omega.{arith}
use mathlib.Core.Path.{◌≡◌, refl, sym, ap, subst}
use mathlib.Core.Bool.{Bool, true, false, cond, true≢false}
use mathlib.Core.Logic.{inl, inr}
use mathlib.Core.List.Memᴰ
use mathlib.Core.List.{List, [], ◌∷◌}
use lib.Dec.{eqb}
use Rattle.rt0.specs.Credential.{Role, ◌·◌, name_of, entity, intersection, Credential, ◌⟵◌, head, ◌∈◌}
use Rattle.rt0.specs.Membership.{Assignment, Gives, Closed, Member, simple, common}
use Rattle.rt0.proofs.Least.{member_least}
use Rattle.types.specs.Name.{issuer_traces_def, issuer_traces_all, SubjectSide, subject_traces_none, subject_traces_all, Types, WellTyped}
use Rattle.types.specs.Body.{BodyIssuerTracesAll}
use Rattle.types.specs.Typed.{StructurallyWellTyped, AllTyped, traced}

abbrev types : Types
types r = record { on_issuer = cond (eqb r 3) issuer_traces_def issuer_traces_all; on_subject = subject_traces_none }

abbrev both : Credential
both = 1 · 1 ⟵ intersection (1 · 2 ∷ 1 · 3 ∷ [])

abbrev first : Credential
first = 1 · 2 ⟵ entity 1

abbrev second : Credential
second = 1 · 3 ⟵ entity 1

abbrev credentials : List Credential
credentials = both ∷ first ∷ second ∷ []

-- what is left, computed
pub left : traced types credentials ≡ both ∷ first ∷ []
unfolding traced
left = refl

-- ---- all are structurally well typed

none_not_all : subject_traces_none ≡ subject_traces_all → ⊥
none_not_all e = true≢false (sym (ap is_all e))
  where
    is_all : SubjectSide → Bool
    is_all subject_traces_none = false
    is_all subject_traces_all = true

three_not_two : ◌≡◌ {A = ℕ} 3 2 → ⊥
three_not_two e = omega arith

one_not_two : ◌≡◌ {A = ℕ} 1 2 → ⊥
one_not_two e = omega arith

one_of_two : (P : Role → Type 0) (ρ σ : Role) → P ρ → P σ → (τ : Role) → τ ∈ (ρ ∷ σ ∷ []) → P τ
one_of_two P ρ σ p q τ (Memᴰ.tail (Memᴰ.tail x8)) = elim x8 [ ]
one_of_two P ρ σ p q τ (Memᴰ.head e) = subst P (sym e) p
one_of_two P ρ σ p q τ (Memᴰ.tail (Memᴰ.head e)) = subst P (sym e) q

pub all_typed : AllTyped types credentials
all_typed c (Memᴰ.tail (Memᴰ.tail (Memᴰ.tail x12))) = elim x12 [ ]
all_typed c (Memᴰ.head e) = subst (StructurallyWellTyped types) (sym e) (record {
  head_typed = inl (inl refl);
  body_typed = inl body;
  by_issuer_side = λ _. body;
  by_subject_side = λ n. absurd (none_not_all n);
})
  where
    body : BodyIssuerTracesAll types (intersection (1 · 2 ∷ 1 · 3 ∷ []))
    body = ((1 · 2, Memᴰ.head refl, refl), one_of_two (λ ρ. WellTyped (types (name_of ρ))) (1 · 2) (1 · 3) (inl (inl refl)) (inr (refl, refl)))
all_typed c (Memᴰ.tail (Memᴰ.head e)) = subst (StructurallyWellTyped types) (sym e) (record {
  head_typed = inl (inl refl);
  body_typed = inl tt;
  by_issuer_side = λ _. tt;
  by_subject_side = λ _. tt;
})
all_typed c (Memᴰ.tail (Memᴰ.tail (Memᴰ.head e))) = subst (StructurallyWellTyped types) (sym e) (record {
  head_typed = inr (refl, refl);
  body_typed = inl tt;
  by_issuer_side = λ _. tt;
  by_subject_side = λ _. tt;
})

-- ---- 1 is a member of 1.1 by all of them, and by those that are left is not

pub sure : Member credentials (1 · 1) 1
sure = common (Memᴰ.head refl) (one_of_two (λ ρ. Member credentials ρ 1) (1 · 2) (1 · 3) (simple (Memᴰ.tail (Memᴰ.head refl)))
    (simple (Memᴰ.tail (Memᴰ.tail (Memᴰ.head refl)))))

-- by those that are left only roles of name 2 have members
abbrev OfName2 : Assignment
OfName2 ρ D = name_of ρ ≡ 2

closed : Closed (both ∷ first ∷ []) OfName2
closed c (Memᴰ.tail (Memᴰ.tail x8)) = elim x8 [ ]
closed c (Memᴰ.head e) = subst (λ (k : Credential). (D : ℕ) → Gives OfName2 k D → OfName2 (head k) D) (sym e)
    (λ D g. absurd (three_not_two (g (1 · 3) (Memᴰ.tail (Memᴰ.head refl)))))
closed c (Memᴰ.tail (Memᴰ.head e)) = subst (λ (k : Credential). (D : ℕ) → Gives OfName2 k D → OfName2 (head k) D) (sym e) (λ D g. refl)

pub lost : Member (traced types credentials) (1 · 1) 1 → ⊥
lost m = one_not_two (member_least (both ∷ first ∷ []) OfName2 closed (1 · 1) 1 (subst (λ (l : List Credential). Member l (1 · 1) 1) left m))
