-- The distinct heads of a list of credentials are the heads of its credentials, each once. And the facts over a list of roles:
-- the members 1 to E in each role. There are E of them for each role, which bounds what can be stated at all.
use Prim.Native.Nat.{ℕ, zero, suc, ◌*◌, ◌≤◌, ◌<◌}
use native.Mathlib.Nat.{mul-suc}
use native.Mathlib.Omega.{arith}
use mathlib.Core.Path.{◌≡◌, refl, ap}
use mathlib.Core.Bool.{Bool, true, false, ◌||◌, false≢true, and-eq-true_iff}
use mathlib.Core.Option.{some}
use mathlib.Core.List.Memᴰ
use mathlib.Core.List.{List, [], ◌∷◌, map, flat_map}
use lib.ListN.{length, get_elem?, length-append, length-map}
use lib.Dec.{eqb}
use borrow.Author.Tests.{eqb-true, eq-eqb}
use Rattle.rt0.specs.Credential.{Role, ◌·◌, Credential, head, ◌∈◌, IsEntity}
use Rattle.rt0.specs.Table.{same_role, occurs, added_unless, distinct_heads}
use Rattle.rt0.specs.Book.{Book, Numbers}
use Rattle.rt0.specs.Slip.{Fact, ◌∋◌}
use Rattle.rt0.proofs.Items.{item_occurs, item_there, pigeonhole}
use Rattle.rt0.proofs.Lists.{flat_map_holds, up_to, up_to_holds, length_up_to}

same_role_lem : (ρ σ : Role) → same_role ρ σ ≡ true → ρ ≡ σ
same_role_lem (A · r) (B · s) e =
    let both = (and-eq-true_iff (eqb A B) (eqb r s)).0 e in
    let same_entity = eqb-true A B both.0 in
    let same_name = eqb-true r s both.1 in
    cc

-- what the test finds is there
occurs_in : (ρ : Role) (ρs : List Role) → occurs ρ ρs ≡ true → ρ ∈ ρs
unfolding occurs
occurs_in ρ [] e = absurd (false≢true e)
occurs_in ρ (σ ∷ σs) e = either (same_role ρ σ) (same_role_lem ρ σ) (occurs_in ρ σs) e
  where
    either : (b : Bool) → (b ≡ true → ρ ≡ σ) → (occurs ρ σs ≡ true → ρ ∈ σs) → (b || occurs ρ σs) ≡ true → ρ ∈ (σ ∷ σs)
    either true here there t = Memᴰ.head (here refl)
    either false here there t = Memᴰ.tail (there t)

role_same : (ρ : Role) → same_role ρ ρ ≡ true
role_same (A · r) = rw (eq-eqb A A refl, eq-eqb r r refl)

-- what is there the test finds
in_occurs : (ρ : Role) {ρs : List Role} → ρ ∈ ρs → occurs ρ ρs ≡ true
unfolding occurs
in_occurs ρ (Memᴰ.head e) = rw (← e, role_same ρ)
in_occurs ρ (Memᴰ.tail {x = σ} i) = later (same_role ρ σ) (in_occurs ρ i)
  where
    later : (b : Bool) {c : Bool} → c ≡ true → (b || c) ≡ true
    later true e = refl
    later false e = e

-- a role stays in a list to which one is added unless it occurs, and the added one is in it
added_keeps : (b : Bool) (ρ σ : Role) (ρs : List Role) → σ ∈ ρs → σ ∈ added_unless b ρ ρs
added_keeps true ρ σ ρs i = i
added_keeps false ρ σ ρs i = Memᴰ.tail i

added_holds : (ρ : Role) (ρs : List Role) → ρ ∈ added_unless (occurs ρ ρs) ρ ρs
added_holds ρ ρs = added (occurs ρ ρs) (occurs_in ρ ρs)
  where
    added : (b : Bool) → (b ≡ true → ρ ∈ ρs) → ρ ∈ added_unless b ρ ρs
    added true i = i refl
    added false i = Memᴰ.head refl

-- the head of each credential is a distinct head
pub head_distinct : (cs : List Credential) (c : Credential) → c ∈ cs → head c ∈ distinct_heads cs
unfolding distinct_heads
head_distinct [] c x' = elim x' [ ]
head_distinct (k ∷ cs) c (Memᴰ.head e) = rw e (added_holds (head k) (distinct_heads cs))
head_distinct (k ∷ cs) c (Memᴰ.tail i) =
    added_keeps (occurs (head k) (distinct_heads cs)) (head k) (head c) (distinct_heads cs) (head_distinct cs c i)

-- and every distinct head is the head of a credential of the list
pub distinct_head : (cs : List Credential) (ρ : Role) → ρ ∈ distinct_heads cs → (c : Credential) × (c ∈ cs) × (head c ≡ ρ)
unfolding distinct_heads
distinct_head [] ρ i = absurd (Memᴰ.not-nil i)
distinct_head (k ∷ cs) ρ i = found (occurs (head k) (distinct_heads cs)) (distinct_head cs ρ) i
  where
    found : (b : Bool) → (ρ ∈ distinct_heads cs → (c : Credential) × (c ∈ cs) × (head c ≡ ρ)) → ρ ∈ added_unless b (head k) (distinct_heads cs)
        → (c : Credential) × (c ∈ k ∷ cs) × (head c ≡ ρ)
    found true later j = let (c, m, e) = later j in (c, Memᴰ.tail m, e)
    found false later (Memᴰ.head e) = (k, Memᴰ.head refl, cc)
    found false later (Memᴰ.tail j) = let (c, m, e) = later j in (c, Memᴰ.tail m, e)

-- no role stands at two places of the list
abbrev Once : List Role → Type 0
Once ρs = (m n : ℕ) (ρ : Role) → get_elem? ρs m ≡ some ρ → get_elem? ρs n ≡ some ρ → m ≡ n

once_cons : (σ : Role) (ρs : List Role) → (σ ∈ ρs → ⊥) → Once ρs → Once (σ ∷ ρs)
once_cons σ ρs new once zero zero ρ e f = refl
once_cons σ ρs new once zero (suc n) ρ e f = absurd (new (item_occurs ρs n σ (cc)))
once_cons σ ρs new once (suc m) zero ρ e f = absurd (new (item_occurs ρs m σ (cc)))
once_cons σ ρs new once (suc m) (suc n) ρ e f = ap suc (once m n ρ e f)

-- each head is listed once
pub heads_once : (cs : List Credential) (m n : ℕ) (ρ : Role)
    → get_elem? (distinct_heads cs) m ≡ some ρ → get_elem? (distinct_heads cs) n ≡ some ρ → m ≡ n
unfolding distinct_heads
heads_once [] m n ρ e f = absurd (Memᴰ.not-nil (item_occurs [] m ρ e))
heads_once (c ∷ cs) m n ρ e f = added (occurs (head c) (distinct_heads cs)) (in_occurs (head c)) (heads_once cs) m n ρ e f
  where
    added : (b : Bool) → (head c ∈ distinct_heads cs → b ≡ true) → Once (distinct_heads cs) → Once (added_unless b (head c) (distinct_heads cs))
    added true there once = once
    added false there once = once_cons (head c) (distinct_heads cs) (λ i. false≢true (there i)) once

-- there are at most as many distinct heads as numbers in a book of the credentials: each head has the number of a credential of its own
pub heads_few : {book : Book} {cs : List Credential} {most : ℕ} → Numbers book cs most → length (distinct_heads cs) ≤ most
heads_few {book} {cs} {most} numbers = rw length_up_to at (pigeonhole Named once (length (distinct_heads cs)) (up_to most) named)
  where
    -- number c names a credential whose head is distinct head m, counted from 0
    Named : ℕ → ℕ → Type 0
    Named m c = (k : Credential) × (book c ≡ some k) × (get_elem? (distinct_heads cs) m ≡ some (head k))

    once : (m n c : ℕ) → Named m c → Named n c → m ≡ n
    once m n c (k, e, i) (l, f, j) = let same : k ≡ l = cc in heads_once cs m n (head k) i (rw same j)

    named : (m : ℕ) → m < length (distinct_heads cs) → (c : ℕ) × Named m c × (c ∈ up_to most)
    named m h =
        let (ρ, i) = item_there (distinct_heads cs) m h in
        let (k, there, same) = distinct_head cs ρ (item_occurs (distinct_heads cs) m ρ i) in
        let (c, e) = numbers.every k there in
        let inside = numbers.within c k e in
        (c, (k, e, rw same i), up_to_holds most c inside.0 inside.1)

-- the facts with members 1 to E and a role of the list
pub facts_over : ℕ → List Role → List Fact
facts_over E = flat_map (λ ρ. map (λ D. ρ ∋ D) (up_to E))

pub length_facts_over : (E : ℕ) (ρs : List Role) → length (facts_over E ρs) ≡ E * length ρs
unfolding facts_over flat_map
length_facts_over E [] = omega arith
length_facts_over E (ρ ∷ ρs) = simp (length-append, length-map, length_up_to, length_facts_over E ρs, mul-suc) (omega arith)

-- a member within E of a role of the list: its fact is there
pub fact_over : (E D : ℕ) → IsEntity E D → (ρs : List Role) (ρ : Role) → ρ ∈ ρs → (ρ ∋ D) ∈ facts_over E ρs
unfolding facts_over
fact_over E D h ρs ρ i =
    flat_map_holds (λ ρ. map (λ D. ρ ∋ D) (up_to E)) ρ (ρ ∋ D) i (Memᴰ.map (λ D. ρ ∋ D) (up_to_holds E D h.above h.within))
