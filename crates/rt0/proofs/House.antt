-- The small house: every case that it states is right, by one test computed over the list of cases and the law that what passes is right.
use native.Mathlib.Nat.{le_refl}
use mathlib.Core.Path.{◌≡◌, refl}
use mathlib.Core.Bool.{Bool, true, false, ◌&&◌, false≢true}
use lib.Dec.{eqb}
use borrow.Author.Tests.{eqb-true}
use Rattle.rt0.specs.Credential.{◌∈◌}
use Rattle.rt0.specs.Word.{link_word, meet_word, give_word, use_word, use_words, round_words, none_words, open_words}
use Rattle.rt0.specs.Completion.{some_absent, Verdict, YES, NO, UNSURE, Answers}
use Rattle.rt0.specs.Table.{Rounds}
use Rattle.rt0.specs.House.{Case, RightCase, cases, present_but, among, opens}
use Rattle.rt0.proofs.Tests.{both_true, every, every_true, same_words}
use Rattle.rt0.proofs.Settle.{settle_words}
use Rattle.rt0.proofs.Decide.{from_one_to, valid_role, valid, entity_from, role_from, all_valid_from, Answer, answer_words, answer_words_lem}

abbrev same_verdict : Verdict → Verdict → Bool
same_verdict YES YES = true
same_verdict YES NO = false
same_verdict YES UNSURE = false
same_verdict NO YES = false
same_verdict NO NO = true
same_verdict NO UNSURE = false
same_verdict UNSURE YES = false
same_verdict UNSURE NO = false
same_verdict UNSURE UNSURE = true

same_verdict_lem : (v w : Verdict) → same_verdict v w ≡ true → v ≡ w
same_verdict_lem YES YES h = refl
same_verdict_lem YES NO h = absurd (false≢true h)
same_verdict_lem YES UNSURE h = absurd (false≢true h)
same_verdict_lem NO YES h = absurd (false≢true h)
same_verdict_lem NO NO h = refl
same_verdict_lem NO UNSURE h = absurd (false≢true h)
same_verdict_lem UNSURE YES h = absurd (false≢true h)
same_verdict_lem UNSURE NO h = absurd (false≢true h)
same_verdict_lem UNSURE UNSURE h = refl

-- a case makes sense: its credentials, the role and the one asked about are within its entities and names
sound : Case → Bool
sound k =
    let E = k.entities in
    let R = k.names in
    every (valid E R) k.held && (valid_role E R k.into && from_one_to E k.asked)

-- the answer computed for a case
answer : Case → Answer
answer k = answer_words k.entities k.names k.entities k.names (opens k) k.held k.into k.asked

computed_right : (k : Case) → sound k ≡ true
    → Answers k.entities k.names (opens k) k.held k.into k.asked (answer k).verdict × Rounds k.held (answer k).rounds
unfolding sound answer
computed_right k h =
    let E = k.entities in
    let R = k.names in
    let held_good = every (valid E R) k.held in
    let role_good = valid_role E R k.into in
    let asked_good = from_one_to E k.asked in
    let b : (held_good ≡ true) × ((role_good && asked_good) ≡ true) = both_true held_good (role_good && asked_good) h in
    let c : (role_good ≡ true) × (asked_good ≡ true) = both_true role_good asked_good b.1 in
    answer_words_lem E R E R (le_refl E) (le_refl R) (opens k) k.held (all_valid_from E R k.held b.0) k.into k.asked
    (role_from E R k.into c.0) (entity_from E k.asked c.1)

-- a case makes sense, and it states the answer computed
passes : Case → Bool
passes k = let a = answer k in sound k && (same_verdict a.verdict k.verdict && eqb a.rounds k.rounds)

pass_right : (k : Case) → passes k ≡ true → RightCase k
unfolding passes
pass_right k h =
    let same_answer = same_verdict (answer k).verdict k.verdict in
    let same_rounds = eqb (answer k).rounds k.rounds in
    let b : (sound k ≡ true) × ((same_answer && same_rounds) ≡ true) = both_true (sound k) (same_answer && same_rounds) h in
    let c : (same_answer ≡ true) × (same_rounds ≡ true) = both_true same_answer same_rounds b.1 in
    let right = computed_right k b.0 in
    let verdict_same = same_verdict_lem (answer k).verdict k.verdict c.0 in
    let rounds_same = eqb-true (answer k).rounds k.rounds c.1 in
    (rw (← verdict_same) right.0, rw (← rounds_same) right.1)

all_pass : every passes cases ≡ true
unfolding passes sound answer every cases present_but among some_absent answer_words settle_words same_words none_words open_words
    round_words use_words use_word give_word link_word meet_word
all_pass = refl

-- every case is right
pub cases_right : (k : Case) → k ∈ cases → RightCase k
cases_right k i = pass_right k (every_true passes cases all_pass k i)
