-- Membership is closed and is contained in every closed assignment. It grows with the list of credentials, and depends on
-- the list only through which credentials occur in it. Over valid credentials it stays within the entities and role names.
use Prim.Native.Nat.{ℕ}
use mathlib.Core.Path.{refl}
use mathlib.Core.Logic.{◌↔◌, ⊎_elim}
use mathlib.Core.List.Memᴰ
use mathlib.Core.List.{List, [], ◌∷◌, ◌++◌}
use native.Mathlib.Omega.{arith}
use Rattle.rt0.specs.Credential.{Role, ◌·◌, entity, role, link, intersection, Credential, ◌⟵◌, head, ◌∈◌}
use Rattle.rt0.specs.Credential.{IsEntity, ValidRole, Valid, AllValid}
use Rattle.rt0.specs.Membership.{Assignment, Gives, Closed, Member, simple, contained, linked, common}

-- one use of a credential gives more from more
pub gives_more : (c : Credential) (P Q : Assignment) → ((ρ : Role) (D : ℕ) → P ρ D → Q ρ D) → (D : ℕ) → Gives P c D → Gives Q c D
gives_more (A · r ⟵ entity B) P Q h D g = g
gives_more (A · r ⟵ role ρ) P Q h D g = h ρ D g
gives_more (A · r ⟵ link r1 r2) P Q h D (X, p, q) = (X, h _ X p, h _ D q)
gives_more (A · r ⟵ intersection parts) P Q h D g = λ ρ i. h ρ D (g ρ i)

pub member_closed : (cs : List Credential) → Closed cs (Member cs)
member_closed cs (A · r ⟵ entity B) i D g = rw g (simple i)
member_closed cs (A · r ⟵ role ρ) i D g = contained i g
member_closed cs (A · r ⟵ link r1 r2) i D (X, m, n) = linked i m n
member_closed cs (A · r ⟵ intersection parts) i D g = common i g

pub member_least : (cs : List Credential) (P : Assignment) → Closed cs P → (ρ : Role) (D : ℕ) → Member cs ρ D → P ρ D
member_least cs P h ρ D (simple i) = h _ i D refl
member_least cs P h ρ D (contained i m) = h _ i D (member_least cs P h _ D m)
member_least cs P h ρ D (linked i m n) = h _ i D (_, member_least cs P h _ _ m, member_least cs P h _ D n)
member_least cs P h ρ D (common i m) = h _ i D (λ σ j. member_least cs P h σ D (m σ j))

-- closed under two lists is closed under both together
pub closed_append : (cs ds : List Credential) (P : Assignment) → Closed cs P → Closed ds P → Closed (cs ++ ds) P
closed_append cs ds P h k c i D g = ⊎_elim (λ j. h c j D g) (λ j. k c j D g) (Memᴰ.append_cases cs i)

pub member_grows : (cs ds : List Credential) → ((c : Credential) → c ∈ cs → c ∈ ds) → (ρ : Role) (D : ℕ) → Member cs ρ D → Member ds ρ D
member_grows cs ds h = member_least cs (Member ds) (λ c i. member_closed ds c (h c i))

pub member_by_occurrence : (cs ds : List Credential) → ((c : Credential) → (c ∈ cs) ↔ (c ∈ ds))
    → (ρ : Role) (D : ℕ) → Member cs ρ D ↔ Member ds ρ D
member_by_occurrence cs ds h ρ D = (member_grows cs ds (λ c. (h c).0) ρ D, member_grows ds cs (λ c. (h c).1) ρ D)

pub valid_head : (E R : ℕ) (c : Credential) → Valid E R c → ValidRole E R (head c)
valid_head E R (ρ ⟵ e) v = v.0

-- what a valid credential gives from an assignment whose members are entities is an entity
pub gives_entity : (E R : ℕ) (c : Credential) (P : Assignment) → Valid E R c → ((ρ : Role) (D : ℕ) → P ρ D → IsEntity E D)
    → (D : ℕ) → Gives P c D → IsEntity E D
gives_entity E R (A · r ⟵ entity B) P v h D g = rw g v.1
gives_entity E R (A · r ⟵ role ρ) P v h D g = h ρ D g
gives_entity E R (A · r ⟵ link r1 r2) P v h D (X, p, q) = h _ D q
gives_entity E R (A · r ⟵ intersection []) P v h D g = omega arith
gives_entity E R (A · r ⟵ intersection (ρ ∷ ρs)) P v h D g = h ρ D (g ρ (Memᴰ.head refl))

pub member_within : (E R : ℕ) (cs : List Credential) → AllValid E R cs
    → (ρ : Role) (D : ℕ) → Member cs ρ D → ValidRole E R ρ × IsEntity E D
member_within E R cs v =
    let Within : Assignment = λ ρ D. ValidRole E R ρ × IsEntity E D in
    member_least cs Within (λ c i D g. (valid_head E R c (v c i), gives_entity E R c Within (v c i) (λ ρ X p. p.1) D g))
