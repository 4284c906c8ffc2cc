-- The answer computed: settle the words from nobody and from everyone in the open roles, and read a bit of each. Over valid credentials
-- the verdict is the one that answers and the rounds are those of the tables. And the test that credentials are valid.
use Prim.Native.Nat.{ℕ, ◌-◌, ◌*◌, ◌≤◌}
use native.Mathlib.Nat.{mul-le-mul_left}
use mathlib.Core.Path.{◌≡◌, refl}
use mathlib.Core.Bool.{Bool, true, false, ◌&&◌, false≢true}
use mathlib.Core.Logic.{◌↔◌, inl, inr}
use mathlib.Core.List.{List}
use lib.ListN.{length}
use lib.Dec.{leb, eqb}
use borrow.Author.Tests.{leb-true, eqb-true, eq-eqb}
use Rattle.rt0.specs.Credential.{Role, ◌·◌, Body, entity, role, link, intersection, Credential, ◌⟵◌, ◌∈◌}
use Rattle.rt0.specs.Credential.{IsEntity, IsName, ValidRole, ValidBody, Valid, AllValid}
use Rattle.rt0.specs.Membership.{Assignment, Member}
use Rattle.rt0.specs.Table.{Rounds}
use Rattle.rt0.specs.Completion.{Open, Verdict, YES, NO, UNSURE, Answers}
use Rattle.rt0.specs.Word.{bit, word_at, none_words, open_words, Settled, Shows, Fits}
use Rattle.rt0.proofs.Heads.{heads_few}
use Rattle.rt0.proofs.Books.{book_numbers}
use Rattle.rt0.proofs.Possible.{Possible, answer_from, answer_right}
use Rattle.rt0.proofs.Shown.{none_fits, open_fits}
use Rattle.rt0.proofs.Tests.{both_true, every, every_true}
use Rattle.rt0.proofs.Settle.{Rest, settle_words, settled_by, settled_rounds, settled_sure, settled_possible}

-- validity

abbrev pub from_one_to : ℕ → ℕ → Bool
from_one_to n x = leb 1 x && leb x n

abbrev pub valid_role : ℕ → ℕ → Role → Bool
valid_role E R (A · r) = from_one_to E A && from_one_to R r

abbrev pub valid_body : ℕ → ℕ → Body → Bool
valid_body E R (entity B) = from_one_to E B
valid_body E R (role ρ) = valid_role E R ρ
valid_body E R (link r1 r2) = from_one_to R r1 && from_one_to R r2
valid_body E R (intersection parts) = leb 2 (length parts) && (leb (length parts) 3 && every (valid_role E R) parts)

abbrev pub valid : ℕ → ℕ → Credential → Bool
valid E R (ρ ⟵ body) = valid_role E R ρ && valid_body E R body

pub entity_from : (E A : ℕ) → from_one_to E A ≡ true → IsEntity E A
entity_from E A h =
    let b : (leb 1 A ≡ true) × (leb A E ≡ true) = both_true (leb 1 A) (leb A E) h in
    record { above = leb-true 1 A b.0; within = leb-true A E b.1 }

name_from : (R r : ℕ) → from_one_to R r ≡ true → IsName R r
name_from R r h = let i : IsEntity R r = entity_from R r h in record { above = i.above; within = i.within }

pub role_from : (E R : ℕ) (ρ : Role) → valid_role E R ρ ≡ true → ValidRole E R ρ
role_from E R (A · r) h =
    let b : (from_one_to E A ≡ true) × (from_one_to R r ≡ true) = both_true (from_one_to E A) (from_one_to R r) h in
    (entity_from E A b.0, name_from R r b.1)

body_from_lem : (E R : ℕ) (body : Body) → valid_body E R body ≡ true → ValidBody E R body
body_from_lem E R (entity B) h = entity_from E B h
body_from_lem E R (role ρ) h = role_from E R ρ h
body_from_lem E R (link r1 r2) h =
    let b : (from_one_to R r1 ≡ true) × (from_one_to R r2 ≡ true) = both_true (from_one_to R r1) (from_one_to R r2) h in
    (name_from R r1 b.0, name_from R r2 b.1)
body_from_lem E R (intersection parts) h =
    let few = leb (length parts) 3 in
    let all = every (valid_role E R) parts in
    let b : (leb 2 (length parts) ≡ true) × ((few && all) ≡ true) = both_true (leb 2 (length parts)) (few && all) h in
    let c : (few ≡ true) × (all ≡ true) = both_true few all b.1 in
    let each : (ρ : Role) → ρ ∈ parts → ValidRole E R ρ = λ ρ i. role_from E R ρ (every_true (valid_role E R) parts c.1 ρ i) in
    (leb-true 2 (length parts) b.0, leb-true (length parts) 3 c.0, each)

valid_from : (E R : ℕ) (c : Credential) → valid E R c ≡ true → Valid E R c
valid_from E R (ρ ⟵ body) h =
    let b : (valid_role E R ρ ≡ true) × (valid_body E R body ≡ true) = both_true (valid_role E R ρ) (valid_body E R body) h in
    (role_from E R ρ b.0, body_from_lem E R body b.1)

pub all_valid_from : (E R : ℕ) (cs : List Credential) → every (valid E R) cs ≡ true → AllValid E R cs
all_valid_from E R cs h c i = valid_from E R c (every_true (valid E R) cs h c i)

-- the answer

-- D is in the role's word
abbrev pub holds : ℕ → List ℕ → Role → ℕ → Bool
holds W ws ρ D = eqb (bit (word_at W ws ρ) (D - 1)) 1

-- the verdict from whether D is sure and whether D is possible
abbrev pub verdict_from : Bool → Bool → Verdict
verdict_from true possible = YES
verdict_from false true = UNSURE
verdict_from false false = NO

pub record Answer : Type 0 where
  pub verdict : Verdict
  pub rounds : ℕ

-- the words settled, with as many rounds allowed as can be needed
abbrev pub at_rest : ℕ → ℕ → List Credential → List ℕ → Rest
at_rest E W cs start = settle_words E W cs (E * length cs) 0 start

-- over tables of W words for each of B entities
unfoldable pub answer_words : (E R B W : ℕ) → Open → List Credential → Role → ℕ → Answer
answer_words E R B W is_open cs ρ D =
    let sure = at_rest E W cs (none_words (W * B)) in
    let possible = at_rest E W cs (open_words E R W is_open (W * B)) in
    record { verdict = verdict_from (holds W sure.words ρ D) (holds W possible.words ρ D); rounds = sure.rounds }

-- what words show is read off them
holds_shown : (B W : ℕ) (ws : List ℕ) (P : Assignment) → Shows B W ws P
    → (ρ : Role) (D : ℕ) → ValidRole B W ρ → IsEntity B D → (holds W ws ρ D ≡ true) ↔ P ρ D
holds_shown B W ws P s (A · r) D i d =
    let shown : (bit (word_at W ws (A · r)) (D - 1) ≡ 1) ↔ P (A · r) D = s A r D i.0 i.1 d in
    (λ h. shown.0 (eqb-true _ 1 h), λ p. eq-eqb _ 1 (shown.1 p))

module _ (E R B W : ℕ) (e : E ≤ B) (r : R ≤ W) (is_open : Open) (cs : List Credential) (v : AllValid E R cs) where
  verdict_right : (ρ : Role) (D : ℕ) (sure possible : Bool) → (sure ≡ true) ↔ Member cs ρ D → (possible ≡ true) ↔ Possible E R is_open cs ρ D
      → Answers E R is_open cs ρ D (verdict_from sure possible)
  unfolding answer_from
  verdict_right ρ D true possible s p = s.0 refl
  verdict_right ρ D false true s p = answer_right E R is_open cs v ρ D (inr (λ m. false≢true (s.1 m))) (inl (p.0 refl))
  verdict_right ρ D false false s p = answer_right E R is_open cs v ρ D (inr (λ m. false≢true (s.1 m))) (inr (λ m. false≢true (p.1 m)))

  rest_settled : (start : List ℕ) → Fits E B W start → Settled E W cs start (at_rest E W cs start).rounds (at_rest E W cs start).words
  rest_settled start f = settled_by E R B W e r cs v start f (E * length cs) (mul-le-mul_left E (heads_few (book_numbers cs)))

  -- the verdict answers, and the rounds are those of the tables
  pub answer_words_lem : (ρ : Role) (D : ℕ) → ValidRole B W ρ → IsEntity B D
      → (let a : Answer = answer_words E R B W is_open cs ρ D in Answers E R is_open cs ρ D a.verdict × Rounds cs a.rounds)
  unfolding answer_words
  answer_words_lem ρ D i d =
      let none = none_words (W * B) in
      let full = open_words E R W is_open (W * B) in
      let settled = rest_settled none (none_fits E R B W e r) in
      let sure = settled_sure E R B W e r cs v _ _ settled in
      let possible = settled_possible E R B W e r cs v is_open _ _ (rest_settled full (open_fits E R B W e r is_open)) in
      let sure_read = holds_shown B W (at_rest E W cs none).words (Member cs) sure ρ D i d in
      let possible_read = holds_shown B W (at_rest E W cs full).words (Possible E R is_open cs) possible ρ D i d in
      (verdict_right ρ D _ _ sure_read possible_read, settled_rounds E R B W e r cs v _ _ settled)
