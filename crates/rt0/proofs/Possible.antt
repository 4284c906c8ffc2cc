-- "Possible": membership under the fullest completion is the least assignment closed under the held credentials in which every
-- open role holds everyone, and D is possible in A.r exactly if some completion makes D a member.
-- So the answer worked out from the sure and the possible assignment is YES, NO or UNSURE exactly as defined.
use Prim.Native.Nat.{ℕ}
use mathlib.Core.Path.{◌≡◌, refl, sym, ◌∙◌}
use mathlib.Core.Bool.{Bool, true, false, true≢false}
use mathlib.Core.Logic.{◌↔◌, ◌⊎◌, inl, inr, ⊎_elim}
use mathlib.Core.List.Memᴰ
use mathlib.Core.List.{List, [], ◌++◌, map, flat_map}
use native.Mathlib.Omega.{arith}
use Rattle.rt0.specs.Credential.{Role, ◌·◌, entity, Credential, ◌⟵◌, head, issuer, ◌∈◌, AllValid, IsEntity, ValidRole}
use Rattle.rt0.specs.Membership.{Assignment, Closed, Member, simple}
use Rattle.rt0.specs.Completion.{Shelf, Present, is_absent, open_by, Open, Completion, Completable, HoldsEveryone, IsPossible}
use Rattle.rt0.specs.Completion.{Yes, No, Unsure, Verdict, YES, NO, UNSURE, Answers}
use Rattle.rt0.proofs.Lists.{flat_map_has, flat_map_holds, up_to, up_to_has, up_to_holds}
use Rattle.rt0.proofs.Least.{gives_more, gives_entity, member_closed, member_least, member_grows, closed_append, valid_head}

-- the roles within E and R
roles : ℕ → ℕ → List Role
roles E R = flat_map (λ A. map (λ r. A · r) (up_to R)) (up_to E)

roles_has : (E R : ℕ) (ρ : Role) → ρ ∈ roles E R → ValidRole E R ρ
unfolding roles
roles_has E R ρ i =
    let (A, a, j) = flat_map_has (λ A. map (λ r. A · r) (up_to R)) (up_to E) ρ i in
    let (r, n, e) = Memᴰ.of_map (λ r. A · r) (up_to R) j in
    rw (← e) (omega (arith, up_to_has E A a), omega (arith, up_to_has R r n))

roles_holds : (E R : ℕ) (ρ : Role) → ValidRole E R ρ → ρ ∈ roles E R
unfolding roles
roles_holds E R (A · r) (a, n) =
    flat_map_holds (λ A. map (λ r. A · r) (up_to R)) A (A · r) (up_to_holds E A a.above a.within)
    (Memᴰ.map (λ r. A · r) (up_to_holds R r n.above n.within))

-- one credential ρ ← D for every entity D, if the role ρ is open
filled : Bool → ℕ → Role → List Credential
filled true E ρ = map (λ D. ρ ⟵ entity D) (up_to E)
filled false E ρ = []

filled_has : (b : Bool) (E : ℕ) (ρ : Role) (k : Credential) → k ∈ filled b E ρ
    → (D : ℕ) × (b ≡ true) × IsEntity E D × (k ≡ ρ ⟵ entity D)
unfolding filled
filled_has true E ρ k i =
    let (D, d, e) = Memᴰ.of_map (λ D. ρ ⟵ entity D) (up_to E) i in
    (D, refl, omega (arith, up_to_has E D d), sym e)
filled_has false E ρ k i = absurd (Memᴰ.not-nil i)

filled_holds : (b : Bool) (E : ℕ) (ρ : Role) (D : ℕ) → b ≡ true → IsEntity E D → (ρ ⟵ entity D) ∈ filled b E ρ
unfolding filled
filled_holds b E ρ D o d = rw o (Memᴰ.map (λ D. ρ ⟵ entity D) (up_to_holds E D d.above d.within))

-- more credentials, the same members or more
with_more : (cs ks : List Credential) (ρ : Role) (D : ℕ) → Member cs ρ D → Member (cs ++ ks) ρ D
with_more cs ks = member_grows cs (cs ++ ks) (λ c. Memᴰ.append_left ks)

-- the answer worked out from whether D is sure and whether D is possible
unfoldable pub answer_from : {S P : Type 0} → S ⊎ (S → ⊥) → P ⊎ (P → ⊥) → Verdict
answer_from (inl s) p = YES
answer_from (inr s) (inl p) = UNSURE
answer_from (inr s) (inr p) = NO

module _ (E R : ℕ) (is_open : Open) where
  -- one credential A.r ← D for every open role A.r within E and R and every entity D within E
  pub fullest : List Credential
  fullest = flat_map (λ ρ. filled (is_open ρ) E ρ) (roles E R)

  -- k is ρ ← D for an open role ρ and an entity D
  abbrev Filling : Credential → Type 0
  Filling k = (ρ : Role) × (D : ℕ) × ValidRole E R ρ × (is_open ρ ≡ true) × IsEntity E D × (k ≡ ρ ⟵ entity D)

  fullest_has : (k : Credential) → k ∈ fullest → Filling k
  unfolding fullest
  fullest_has k i =
      let (ρ, v, j) = flat_map_has (λ ρ. filled (is_open ρ) E ρ) (roles E R) k i in
      let (D, o, d, e) = filled_has (is_open ρ) E ρ k j in
      (ρ, D, roles_has E R ρ v, o, d, e)

  fullest_holds : HoldsEveryone E R is_open (λ ρ D. (ρ ⟵ entity D) ∈ fullest)
  unfolding fullest
  fullest_holds ρ v o D d =
      flat_map_holds (λ ρ. filled (is_open ρ) E ρ) ρ (ρ ⟵ entity D) (roles_holds E R ρ v) (filled_holds (is_open ρ) E ρ D o d)

  pub fullest_completion : Completion E R is_open fullest
  fullest_completion k i = let (ρ, D, v, o, d, e) = fullest_has k i in rw e ((v, d), cc)

  -- an assignment in which every open role holds everyone is closed under the fullest completion
  everyone_closed : (P : Assignment) → HoldsEveryone E R is_open P → Closed fullest P
  everyone_closed P h k i D g = fill (fullest_has k i)
    where
      fill : Filling k → P (head k) D
      fill (A · r, B, v, o, d, e) = let f : D ≡ B = rw e at g in rw (e, f) (h (A · r) v o B d)

  -- the least assignment closed under the held credentials in which every open role holds everyone
  abbrev pub Possible : List Credential → Assignment
  Possible cs = Member (cs ++ fullest)

  possible_everyone : (cs : List Credential) → HoldsEveryone E R is_open (Possible cs)
  possible_everyone cs (A · r) v o D d = simple (Memᴰ.append_right cs (fullest_holds (A · r) v o D d))

  pub is_possible : (cs : List Credential) → IsPossible E R is_open cs (Possible cs)
  is_possible cs = record {
    closed = λ c i. member_closed (cs ++ fullest) c (Memᴰ.append_left fullest i);
    everyone = possible_everyone cs;
    least = λ P closed everyone.
        member_least (cs ++ fullest) P (closed_append cs fullest P closed (everyone_closed P everyone));
  }

  -- D is possible in A.r exactly if some completion makes D a member
  pub possible_completable : (cs : List Credential) → AllValid E R cs → (ρ : Role) (D : ℕ)
      → Possible cs ρ D ↔ Completable E R is_open cs ρ D
  possible_completable cs v ρ D = (
    λ m. (fullest, fullest_completion, m),
    λ (ks, completes, m). (member_least (cs ++ ks) Q (closed_append cs ks Q held (added ks completes)) ρ D m).0,
  )
    where
      -- possible, and an entity: closed under the held credentials and, an open role holding every entity, under any completion
      Q : Assignment
      Q σ X = Possible cs σ X × IsEntity E X

      held : Closed cs Q
      held c i X g = (
        (is_possible cs).closed c i X (gives_more c Q (Possible cs) (λ σ Y q. q.0) X g),
        gives_entity E R c Q (v c i) (λ σ Y q. q.1) X g,
      )

      added : (ks : List Credential) → Completion E R is_open ks → Closed ks Q
      added ks completes k i X g =
          let (valid, o) = completes k i in
          let x = gives_entity E R k Q valid (λ σ Y q. q.1) X g in
          (possible_everyone cs (head k) (valid_head E R k valid) o X x, x)

  -- a member is possible
  pub sure_possible : (cs : List Credential) (ρ : Role) (D : ℕ) → Member cs ρ D → Possible cs ρ D
  sure_possible cs = with_more cs fullest

  -- a member is a member under the completion that adds nothing
  sure_completable : (cs : List Credential) (ρ : Role) (D : ℕ) → Yes cs ρ D → Completable E R is_open cs ρ D
  sure_completable cs ρ D m = ([], (λ k i. absurd (Memᴰ.not-nil i)), with_more cs [] ρ D m)

  -- no two of the three hold
  pub yes_not_no : (cs : List Credential) (ρ : Role) (D : ℕ) → Yes cs ρ D → No E R is_open cs ρ D → ⊥
  yes_not_no cs ρ D y n = n (sure_completable cs ρ D y)

  yes_not_unsure : (cs : List Credential) (ρ : Role) (D : ℕ) → Yes cs ρ D → Unsure E R is_open cs ρ D → ⊥
  yes_not_unsure cs ρ D y u = u.0 y

  no_not_unsure : (cs : List Credential) (ρ : Role) (D : ℕ) → No E R is_open cs ρ D → Unsure E R is_open cs ρ D → ⊥
  no_not_unsure cs ρ D n u = u.1 n

  -- the answer worked out so answers
  pub answer_right : (cs : List Credential) → AllValid E R cs → (ρ : Role) (D : ℕ)
      (s : Member cs ρ D ⊎ (Member cs ρ D → ⊥)) (p : Possible cs ρ D ⊎ (Possible cs ρ D → ⊥))
      → Answers E R is_open cs ρ D (answer_from s p)
  unfolding answer_from
  answer_right cs v ρ D (inl m) p = m
  answer_right cs v ρ D (inr s) (inl m) = (s, λ never. never ((possible_completable cs v ρ D).0 m))
  answer_right cs v ρ D (inr s) (inr p) = λ t. p ((possible_completable cs v ρ D).1 t)

  -- at most one word answers
  pub answer_unique : (cs : List Credential) (ρ : Role) (D : ℕ) (v w : Verdict)
      → Answers E R is_open cs ρ D v → Answers E R is_open cs ρ D w → v ≡ w
  answer_unique cs ρ D YES YES a b = refl
  answer_unique cs ρ D YES NO a b = absurd (yes_not_no cs ρ D a b)
  answer_unique cs ρ D YES UNSURE a b = absurd (yes_not_unsure cs ρ D a b)
  answer_unique cs ρ D NO YES a b = absurd (yes_not_no cs ρ D b a)
  answer_unique cs ρ D NO NO a b = refl
  answer_unique cs ρ D NO UNSURE a b = absurd (no_not_unsure cs ρ D a b)
  answer_unique cs ρ D UNSURE YES a b = absurd (yes_not_unsure cs ρ D b a)
  answer_unique cs ρ D UNSURE NO a b = absurd (no_not_unsure cs ρ D b a)
  answer_unique cs ρ D UNSURE UNSURE a b = refl

  -- with nothing open within E and R UNSURE never occurs, because nothing can be added
  pub nothing_open_within : ((ρ : Role) → ValidRole E R ρ → is_open ρ ≡ false) → (cs : List Credential) (ρ : Role) (D : ℕ)
      → Unsure E R is_open cs ρ D → ⊥
  nothing_open_within h cs ρ D (unsure, possible) =
      possible (λ (ks, completes, m). unsure (member_grows (cs ++ ks) cs (only ks completes) ρ D m))
    where
      only : (ks : List Credential) → Completion E R is_open ks → (c : Credential) → c ∈ cs ++ ks → c ∈ cs
      only ks completes c i = ⊎_elim (λ j. j)
          (λ (j : c ∈ ks). let (valid, o) = completes c j in absurd (true≢false (cc (o, h (head c) (valid_head E R c valid)))))
          (Memᴰ.append_cases cs i)

  pub nothing_open_lem : ((ρ : Role) → is_open ρ ≡ false) → (cs : List Credential) (ρ : Role) (D : ℕ) → Unsure E R is_open cs ρ D → ⊥
  nothing_open_lem h = nothing_open_within (λ ρ v. h ρ)

-- only the roles within E and R count: open tests that agree on these have the same completions, and so the same answers
abbrev pub SameWithin : ℕ → ℕ → Open → Open → Type 0
SameWithin E R is_open other = (ρ : Role) → ValidRole E R ρ → is_open ρ ≡ other ρ

pub completable_within : (E R : ℕ) (is_open other : Open) → SameWithin E R is_open other → (cs : List Credential) (ρ : Role) (D : ℕ)
    → Completable E R is_open cs ρ D → Completable E R other cs ρ D
completable_within E R is_open other same cs ρ D (ks, completes, m) = (ks, also, m)
  where
    also : Completion E R other ks
    also k i = let (valid, o) = completes k i in (valid, sym (same (head k) (valid_head E R k valid)) ∙ o)

pub answers_within : (E R : ℕ) (is_open other : Open) → SameWithin E R is_open other → (cs : List Credential) (ρ : Role) (D : ℕ) (v : Verdict)
    → Answers E R is_open cs ρ D v → Answers E R other cs ρ D v
answers_within E R is_open other same cs ρ D YES a = a
answers_within E R is_open other same cs ρ D NO a = λ c. a (completable_within E R other is_open (λ σ v. sym (same σ v)) cs ρ D c)
answers_within E R is_open other same cs ρ D UNSURE (unsure, possible) =
    (unsure, λ never. possible (λ c. never (completable_within E R is_open other same cs ρ D c)))

-- a completion's credentials are issued by entities whose shelves are absent
pub open_issuer : (shelf : ℕ → Shelf) (k : Credential) → open_by shelf (head k) ≡ is_absent (shelf (issuer k))
open_issuer shelf (ρ ⟵ e) = refl

-- with every shelf present UNSURE never occurs
pub all_present_lem : (E R : ℕ) (shelf : ℕ → Shelf) → ((A : ℕ) → IsEntity E A → shelf A ≡ Present) → (cs : List Credential) (ρ : Role) (D : ℕ)
    → Unsure E R (open_by shelf) cs ρ D → ⊥
all_present_lem E R shelf h = nothing_open_within E R (open_by shelf) closed
  where
    closed : (ρ : Role) → ValidRole E R ρ → open_by shelf ρ ≡ false
    closed (A · r) v = rw (h A v.0)
