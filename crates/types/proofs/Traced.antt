-- Over credentials that are all structurally well typed and of which none is an intersection, the members of issuer-traces-all roles come
-- from the credentials for such roles alone. With an intersection that is not so: one part that is issuer-traces-all makes the whole so,
-- and the others need only be well typed; proofs/Together has the smallest such list.
use Prim.Native.Nat.{ℕ}
use mathlib.Core.Path.{◌≡◌, refl, sym, subst}
use mathlib.Core.Bool.{Bool, true, false, cond, true≢false}
use mathlib.Core.Logic.{◌↔◌}
use mathlib.Core.List.Memᴰ
use mathlib.Core.List.{List, [], ◌∷◌}
use Rattle.rt0.specs.Credential.{Role, ◌·◌, name_of, entity, role, link, intersection, Credential, ◌⟵◌, ◌∈◌}
use Rattle.rt0.specs.Membership.{Assignment, Gives, Member}
use Rattle.rt0.proofs.Least.{member_closed, member_least, member_grows}
use Rattle.types.specs.Name.{IssuerSide, issuer_traces_none, issuer_traces_def, issuer_traces_all, Types, IssuerTracesAll, traces_all}
use Rattle.types.specs.Typed.{head_type, StructurallyWellTyped, AllTyped, NotTogether, NoneTogether, traced}

-- ---- what is left

traces_told : (s : IssuerSide) → traces_all s ≡ true → s ≡ issuer_traces_all
traces_told issuer_traces_none e = absurd (true≢false (sym e))
traces_told issuer_traces_def e = absurd (true≢false (sym e))
traces_told issuer_traces_all e = refl

module _ (T : Types) where
  -- one credential more, by its head's type
  more_only : (b : Bool) (d : Credential) (cs : List Credential) → (b ≡ true → IssuerTracesAll (head_type T d))
      → ((c : Credential) → c ∈ traced T cs → (c ∈ cs) × IssuerTracesAll (head_type T c))
      → (c : Credential) → c ∈ cond b (d ∷ traced T cs) (traced T cs) → (c ∈ (d ∷ cs)) × IssuerTracesAll (head_type T c)
  more_only true d cs told rest c (Memᴰ.head e) = (Memᴰ.head e, rw e (told refl))
  more_only true d cs told rest c (Memᴰ.tail i) = let (there, traces) = rest c i in (Memᴰ.tail there, traces)
  more_only false d cs told rest c i = let (there, traces) = rest c i in (Memᴰ.tail there, traces)

  -- only credentials of the list whose heads are issuer-traces-all are left
  left_only : (cs : List Credential) (c : Credential) → c ∈ traced T cs → (c ∈ cs) × IssuerTracesAll (head_type T c)
  unfolding traced
  left_only [] c i = absurd (Memᴰ.not-nil i)
  left_only (d ∷ cs) c i = more_only (traces_all (head_type T d).on_issuer) d cs (traces_told (head_type T d).on_issuer) (left_only cs) c i

  left_here : (s : IssuerSide) (c : Credential) (cs : List Credential) → s ≡ issuer_traces_all → c ∈ cond (traces_all s) (c ∷ cs) cs
  left_here s c cs e = subst (λ (x : IssuerSide). c ∈ cond (traces_all x) (c ∷ cs) cs) (sym e) (Memᴰ.head refl)

  left_behind : (b : Bool) (c d : Credential) (cs : List Credential) → c ∈ cs → c ∈ cond b (d ∷ cs) cs
  left_behind true c d cs i = Memᴰ.tail i
  left_behind false c d cs i = i

  -- and each of them is
  left_each : (cs : List Credential) (c : Credential) → c ∈ cs → IssuerTracesAll (head_type T c) → c ∈ traced T cs
  unfolding traced
  left_each [] c x'' t = elim x'' [ ]
  left_each (d ∷ cs) c (Memᴰ.head e) t = rw (← e) (left_here (head_type T c).on_issuer c (traced T cs) t)
  left_each (d ∷ cs) c (Memᴰ.tail i) t = left_behind (traces_all (head_type T d).on_issuer) c d (traced T cs) (left_each cs c i t)

-- ---- members

module _ (T : Types) (cs : List Credential) (typed : AllTyped T cs) (single : NoneTogether cs) where
  -- a member by the credentials that are kept, of every role that is issuer-traces-all
  abbrev Found : Assignment
  Found ρ D = IssuerTracesAll (T (name_of ρ)) → Member (traced T cs) ρ D

  -- what a credential gives from such members its head has, if it is issuer-traces-all
  gives_found : (c : Credential) → NotTogether c → StructurallyWellTyped T c → IssuerTracesAll (head_type T c) → (D : ℕ) → Gives Found c D → Gives (Member (traced T cs)) c D
  gives_found (A · r ⟵ entity B) n t i D g = g
  gives_found (A · r ⟵ role ρ) n t i D g = g (t.by_issuer_side i)
  gives_found (A · r ⟵ link r1 r2) n t i D (X, first, second) =
      let (a, b) = t.by_issuer_side i in
      (X, first a, second b)
  gives_found (A · r ⟵ intersection parts) n t i D g = absurd n

  -- members of issuer-traces-all roles stay
  found : (ρ : Role) (D : ℕ) → Member cs ρ D → Found ρ D
  found = member_least cs Found (λ c i D g traces.
      member_closed (traced T cs) c (left_each T cs c i traces) D (gives_found c (single c i) (typed c i) traces D g))

  pub traced_members : (ρ : Role) (D : ℕ) → IssuerTracesAll (T (name_of ρ)) → Member cs ρ D ↔ Member (traced T cs) ρ D
  traced_members ρ D traces = ((λ m. found ρ D m traces), member_grows (traced T cs) cs (λ c i. (left_only T cs c i).0) ρ D)
