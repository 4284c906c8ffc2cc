-- The promise of the search determines everything but which lines a written slip has and how many.
-- Two calls that keep it are taken apart side by side: both are refused, or both are answered with the same word.
use Rattle.std.specs.Prelude.{Result, Ok, Err}
use Prim.Native.Nat.{ℕ, zero, suc, ◌*◌, ◌≤◌, max}
use mathlib.Core.Path.{◌≡◌, refl, sym, ap, ◌∙◌}
use mathlib.Core.Logic.{⊎_elim}
use mathlib.Core.List.{List}
use native.Mathlib.Omega.{arith}
use lib.ListN.{drop}
use Rattle.rt0.specs.Credential.{Role}
use Rattle.rt0.specs.Book.{Book}
use Rattle.rt0.specs.Holding.{Holding}
use Rattle.base.specs.declared.refusal.Refusal.{Refusal}
use Rattle.base.specs.Refused.{refusal_at}
use Rattle.base.specs.Refusals.{Row, AllOnePlace, Judged}
use Rattle.base.proofs.Refusals.{judged_same}
use Rattle.bundle.specs.declared.question.Question.{Question}
use Rattle.bundle.specs.Held.{holding_with}
use Rattle.rt0.specs.Completion.{Open, Verdict, YES, NO, UNSURE}
use Rattle.rt0.proofs.Tables.{rounds_unique}
use Rattle.rt0.proofs.Possible.{answer_unique}
use Rattle.answers.specs.declared.Answer.{Answer}
use Rattle.answers.specs.declared.Answer.TheVariants.{Yes, No, Unsure}
use Rattle.answers.specs.Answer.{Outcome, verdict_number, outcome_of}
use Rattle.search.specs.Promise.{Lent, SlipLeft, search_rows, RefusedWith, AnsweredWith, PromiseWith}
use Rattle.search.proofs.Judging.{search_places}
use Rattle.search.specs.Agreement.{Agreement}
use Rattle.tables.proofs.Comparing.{drop_later}
use Rattle.tables.proofs.Determined.{table_same}

-- with NO and UNSURE no line is written and the slip buffer stays
word_stays : (book : Book) (ρ : Role) (D : ℕ) (before after : List ℕ) (lines : ℕ) (word : Verdict)
    → (verdict_number word ≡ 1 → ⊥) → SlipLeft book ρ D before after lines word → (lines ≡ 0) × (after ≡ before)
word_stays book ρ D before after lines YES other s = absurd (other refl)
word_stays book ρ D before after lines NO other s = s
word_stays book ρ D before after lines UNSURE other s = s

slip_stays : {h : Holding} {q : Question} {before after : Lent} {o : Outcome} → AnsweredWith h q before after o
    → (o.verdict ≡ 1 → ⊥) → (o.lines ≡ 0) × (after.slip ≡ before.slip)
slip_stays p other = word_stays _ _ _ _ _ _ p.word (λ e. other (ap (λ (x : Outcome). x.verdict) p.outcome ∙ e)) p.slip

-- whatever the word, the bytes past the lines stay
word_rest : (book : Book) (ρ : Role) (D : ℕ) (before after : List ℕ) (lines : ℕ) (word : Verdict)
    → SlipLeft book ρ D before after lines word → drop (8 * lines) after ≡ drop (8 * lines) before
word_rest book ρ D before after lines YES s = s.rest
word_rest book ρ D before after lines NO s = ap (drop (8 * lines)) s.1
word_rest book ρ D before after lines UNSURE s = ap (drop (8 * lines)) s.1

-- also from any later line on
past_stays : {h : Holding} {q : Question} {before after : Lent} {o : Outcome} → AnsweredWith h q before after o
    → (lines : ℕ) → o.lines ≤ lines → drop (8 * lines) after.slip ≡ drop (8 * lines) before.slip
past_stays {before} {after} {o} p lines l =
    drop_later after.slip before.slip (8 * o.lines) (8 * lines) (omega arith) (word_rest _ _ _ _ _ _ p.word p.slip)

agrees_itself : (o : Outcome) (after : Lent) → Agreement o after o after
agrees_itself o after =
    record {
      number = refl;
      place = refl;
      verdict = refl;
      rounds = refl;
      sure = refl;
      possible = refl;
      past_slips = refl;
      lines = λ other. refl;
      slip = λ other. refl;
    }

module _ (is_open : Open) (bytes : List ℕ) (q : Question) (before after_one after_two : Lent) (one two : Outcome) where
  answered_same : AnsweredWith (holding_with is_open bytes) q before after_one one → AnsweredWith (holding_with is_open bytes) q before after_two two
      → Agreement one after_one two after_two
  answered_same p r =
      let h = holding_with is_open bytes in
      let words : p.word ≡ r.word = answer_unique h.entities h.names h.is_open h.held _ _ _ _ p.answers r.answers in
      let verdicts : one.verdict ≡ two.verdict = cc in
      record {
        number = cc;
        place = cc;
        verdict = verdicts;
        rounds = rounds_unique h.held _ _ p.rounds r.rounds;
        sure = table_same p.sure r.sure;
        possible = table_same p.possible r.possible;
        past_slips =
            past_stays p (max one.lines two.lines) (omega arith) ∙ sym (past_stays r (max one.lines two.lines) (omega arith));
        lines = λ other. (slip_stays p other).0 ∙ sym (slip_stays r (λ e. other (verdicts ∙ e))).0;
        slip = λ other. (slip_stays p other).1 ∙ sym (slip_stays r (λ e. other (verdicts ∙ e))).1;
      }

  refused_same : one.number ≡ two.number → one.place ≡ two.place → RefusedWith before after_one one → RefusedWith before after_two two
      → Agreement one after_one two after_two
  refused_same number place k l =
      let outcomes : one ≡ two = cc (k.outcome, l.outcome) in
      let afters : after_one ≡ after_two = k.untouched ∙ sym l.untouched in
      rw (outcomes, afters) (agrees_itself two after_two)

  -- by any table of refusals
  pub judged_agree : (rows : List Row) → AllOnePlace rows
      → Judged rows one.number one.place (RefusedWith before after_one one) (AnsweredWith (holding_with is_open bytes) q before after_one one)
      → Judged rows two.number two.place (RefusedWith before after_two two) (AnsweredWith (holding_with is_open bytes) q before after_two two)
      → Agreement one after_one two after_two
  judged_agree rows places p r =
      let (number, place, both) = judged_same rows places p r in
      ⊎_elim (λ (k, l). refused_same number place k l) (λ (a, b). answered_same a b) both

  pub promise_determines : PromiseWith is_open bytes q before after_one one → PromiseWith is_open bytes q before after_two two → Agreement one after_one two after_two
  promise_determines p r = judged_agree (search_rows bytes q before) (search_places bytes q before) p r

-- the answer with an outcome, found by its verdict: 0 is a refusal
answer_by : ℕ → Outcome → Result Answer (Refusal ℕ)
answer_by zero o = Err (refusal_at o.number o.place)
answer_by (suc zero) o = Ok (Yes o.rounds o.lines)
answer_by (suc (suc zero)) o = Ok (No o.rounds)
answer_by (suc (suc (suc n))) o = Ok (Unsure o.rounds)

answer_back : (a : Result Answer (Refusal ℕ)) → answer_by (outcome_of a).verdict (outcome_of a) ≡ a
unfolding answer_by
answer_back (Ok (Yes n k)) = refl
answer_back (Ok (No n)) = refl
answer_back (Ok (Unsure n)) = refl
answer_back (Err why) = refl

-- an answer is determined by its outcome
pub outcome_answer : (a b : Result Answer (Refusal ℕ)) → outcome_of a ≡ outcome_of b → a ≡ b
outcome_answer a b e = sym (answer_back a) ∙ ap (λ (o : Outcome). answer_by o.verdict o) e ∙ answer_back b
