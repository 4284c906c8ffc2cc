-- The tables: each is contained in the next; D is in A.r exactly if it is in some table, exactly if it is in the table at the
-- number of rounds; from there on the tables stay equal. (That the number of rounds exists, and its bound: Settle.)
use Prim.Native.Nat.{ℕ, zero, suc, max, ◌≤◌}
use mathlib.Core.Path.{◌≡◌, refl}
use mathlib.Core.Logic.{◌↔◌, ⊎_elim}
use mathlib.Core.List.Memᴰ
use mathlib.Core.List.{List, [], ◌∷◌}
use native.Mathlib.Nat.{le-max_left, le-max_right}
use native.Mathlib.Decide.{dec_le}
use native.Mathlib.Omega.{arith}
use Rattle.rt0.specs.Credential.{Role, ◌·◌, entity, role, link, intersection, Credential, ◌⟵◌, head, ◌∈◌}
use Rattle.rt0.specs.Membership.{Assignment, Gives, Closed, Member}
use Rattle.rt0.specs.Table.{table, next, Same, Stable, Rounds}
use Rattle.rt0.proofs.Least.{gives_more, member_closed, member_least}

-- one use of each credential gives more from more
next_more : (cs : List Credential) (P Q : Assignment) → ((ρ : Role) (D : ℕ) → P ρ D → Q ρ D)
    → (ρ : Role) (D : ℕ) → next cs P ρ D → next cs Q ρ D
next_more cs P Q h ρ D (c, i, e, g) = (c, i, e, gives_more c P Q h D g)

-- closed: whatever one use of each credential gives is there already
next_closed : (cs : List Credential) (P : Assignment) → Closed cs P → (ρ : Role) (D : ℕ) → next cs P ρ D → P ρ D
next_closed cs P h ρ D (c, i, e, g) = let its_head : head c ≡ ρ = e in rw (← its_head) (h c i D g)

closed_next : (cs : List Credential) (P : Assignment) → ((ρ : Role) (D : ℕ) → next cs P ρ D → P ρ D) → Closed cs P
closed_next cs P h c i D g = h _ D (c, i, refl, g)

pub table_grows_to : (cs : List Credential) (n m : ℕ) → n ≤ m → (ρ : Role) (D : ℕ) → table cs n ρ D → table cs m ρ D
unfolding table
table_grows_to cs zero m h ρ D t = absurd t
table_grows_to cs (suc n) zero h ρ D t = omega arith
table_grows_to cs (suc n) (suc m) h ρ D t = next_more cs (table cs n) (table cs m) (table_grows_to cs n m (omega arith)) ρ D t

-- table n is contained in table n+1
pub table_grows : (cs : List Credential) (n : ℕ) (ρ : Role) (D : ℕ) → table cs n ρ D → table cs (suc n) ρ D
table_grows cs n = table_grows_to cs n (suc n) (omega arith)

pub table_member : (cs : List Credential) (n : ℕ) (ρ : Role) (D : ℕ) → table cs n ρ D → Member cs ρ D
unfolding table
table_member cs zero ρ D t = absurd t
table_member cs (suc n) ρ D t =
    next_closed cs (Member cs) (member_closed cs) ρ D (next_more cs (table cs n) (Member cs) (table_member cs n) ρ D t)

-- in some table
abbrev Tabled : List Credential → Assignment
Tabled cs ρ D = (n : ℕ) × table cs n ρ D

-- whoever is in one of two tables is in the later of the two
table_grows_left : (cs : List Credential) (m n : ℕ) (ρ : Role) (D : ℕ) → table cs m ρ D → table cs (max m n) ρ D
table_grows_left cs m n = table_grows_to cs m (max m n) (le-max_left m n)

table_grows_right : (cs : List Credential) (m n : ℕ) (ρ : Role) (D : ℕ) → table cs n ρ D → table cs (max m n) ρ D
table_grows_right cs m n = table_grows_to cs n (max m n) (le-max_right m n)

-- whoever is in some table for each part is in one table for all the parts, the last of them
common_table : (cs : List Credential) (D : ℕ) (parts : List Role) → ((ρ : Role) → ρ ∈ parts → Tabled cs ρ D)
    → (n : ℕ) × ((ρ : Role) → ρ ∈ parts → table cs n ρ D)
common_table cs D [] h = (0, λ ρ i. absurd (Memᴰ.not-nil i))
common_table cs D (σ ∷ σs) h = join (h σ (Memᴰ.head refl)) (common_table cs D σs (λ ρ i. h ρ (Memᴰ.tail i)))
  where
    join : Tabled cs σ D → (n : ℕ) × ((ρ : Role) → ρ ∈ σs → table cs n ρ D) → (n : ℕ) × ((ρ : Role) → ρ ∈ σ ∷ σs → table cs n ρ D)
    join (m, s) (n, t) = (
      max m n,
      λ ρ i. ⊎_elim
          (λ (e : ρ ≡ σ). rw e (table_grows_left cs m n σ D s))
          (λ (j : ρ ∈ σs). table_grows_right cs m n ρ D (t ρ j))
          (Memᴰ.cases_cons i),
    )

-- what a credential gives from all tables together it gives from one of them
gives_table : (cs : List Credential) (c : Credential) (D : ℕ) → Gives (Tabled cs) c D → (n : ℕ) × Gives (table cs n) c D
gives_table cs (A · r ⟵ entity B) D g = (0, g)
gives_table cs (A · r ⟵ role ρ) D g = g
gives_table cs (A · r ⟵ link r1 r2) D (X, (m, s), (n, t)) =
    (max m n, (X, table_grows_left cs m n (A · r1) X s, table_grows_right cs m n (X · r2) D t))
gives_table cs (A · r ⟵ intersection parts) D g = common_table cs D parts g

pub member_table : (cs : List Credential) (ρ : Role) (D : ℕ) → Member cs ρ D → (n : ℕ) × table cs n ρ D
unfolding table
member_table cs = member_least cs (Tabled cs) (λ c i D g.
    let (n, t) = gives_table cs c D g in
    (suc n, (c, i, refl, t)))

-- D is in ρ exactly if it is in some table
pub member_tabled : (cs : List Credential) (ρ : Role) (D : ℕ) → Member cs ρ D ↔ ((n : ℕ) × table cs n ρ D)
member_tabled cs ρ D = (member_table cs ρ D, λ (n, t). table_member cs n ρ D t)

-- a table that the next one equals holds every member
pub stable_member : (cs : List Credential) (n : ℕ) → Stable cs n → Same (Member cs) (table cs n)
unfolding table
stable_member cs n h ρ D =
    (member_least cs (table cs n) (closed_next cs (table cs n) (λ σ X. (h σ X).1)) ρ D, table_member cs n ρ D)

-- from there on the tables stay equal
pub stable_stays : (cs : List Credential) (n m : ℕ) → Stable cs n → n ≤ m → Same (table cs n) (table cs m)
stable_stays cs n m h l ρ D = (table_grows_to cs n m l ρ D, λ t. (stable_member cs n h ρ D).0 (table_member cs m ρ D t))

pub rounds_member : (cs : List Credential) (n : ℕ) → Rounds cs n → Same (Member cs) (table cs n)
rounds_member cs n h = stable_member cs n h.equal

rounds_not_later : (cs : List Credential) (m n : ℕ) → Rounds cs m → Rounds cs n → m ≤ n
rounds_not_later cs m n h k = from (dec_le m n)
  where
    from : Dec (m ≤ n) → m ≤ n
    from (yes l) = l
    from (no l) = absurd (h.least n (omega arith) k.equal)

-- there is at most one number of rounds
pub rounds_unique : (cs : List Credential) (m n : ℕ) → Rounds cs m → Rounds cs n → m ≡ n
rounds_unique cs m n h k = omega (arith, rounds_not_later cs m n h k, rounds_not_later cs n m k h)
