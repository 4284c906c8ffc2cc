-- What a sheet leaves as it is. Whatever roles are open, the sure table, the rounds and whether the word is YES are the same. Every role that
-- is open without a sheet is open with it, so UNSURE never becomes NO. A sheet without a code 1 or 2, or with no shelf absent, changes nothing.
use Prim.Native.Nat.{ℕ}
use native.Mathlib.Omega.{arith}
use mathlib.Core.Path.{◌≡◌, refl, sym, ap, ◌∙◌, subst}
use mathlib.Core.Bool.{Bool, true, false, ◌&&◌, ◌||◌}
use mathlib.Core.Logic.{◌↔◌, ◌⊎◌, inl, inr}
use mathlib.Core.List.{List}
use Rattle.rt0.specs.Credential.{Role, ◌·◌, Credential, head, IsName}
use Rattle.rt0.specs.Completion.{Open, is_absent, some_absent, Verdict, YES, NO, UNSURE, Answers}
use Rattle.rt0.proofs.Tables.{rounds_unique}
use Rattle.rt0.proofs.Possible.{SameWithin, answer_unique}
use Rattle.base.proofs.Flags.{and_left, and_right}
use Rattle.bundle.specs.declared.question.Question.{Question}
use Rattle.bundle.specs.Layout.{entities_of, names_of}
use Rattle.bundle.specs.Held.{shelves, open_of, held, holding_with}
use Rattle.bundle.specs.Question.{role_asked}
use Rattle.answers.specs.Answer.{Outcome, verdict_number}
use Rattle.tables.proofs.Determined.{table_same}
use Rattle.search.specs.Promise.{Lent, AnsweredWith}
use Rattle.with_sheet.specs.Open.{loose, open_by_sheet}

-- ---- whatever roles are open

-- what two answers have in common
pub record Stays (one : Outcome) (after_one : Lent) (two : Outcome) (after_two : Lent) : Type 0 where
  pub sure : after_one.sure ≡ after_two.sure
  pub rounds : one.rounds ≡ two.rounds
  pub yes : (one.verdict ≡ 1) ↔ (two.verdict ≡ 1)

yes_word : (w : Verdict) → verdict_number w ≡ 1 → w ≡ YES
yes_word YES e = refl
yes_word NO e = absurd (omega arith)
yes_word UNSURE e = absurd (omega arith)

module _ (bytes : List ℕ) (q : Question) (before : Lent) where
  yes_also : (is_open other : Open) {after_one after_two : Lent} {one two : Outcome} → AnsweredWith (holding_with is_open bytes) q before after_one one
      → AnsweredWith (holding_with other bytes) q before after_two two → one.verdict ≡ 1 → two.verdict ≡ 1
  yes_also is_open other {one = one} a b e =
      let E = entities_of bytes in
      let R = names_of bytes in
      let word : a.word ≡ YES = yes_word a.word (sym (ap (λ (x : Outcome). x.verdict) a.outcome) ∙ e) in
      let member = subst (Answers E R is_open (held bytes) (role_asked q) q.person) word a.answers in
      let same : YES ≡ b.word = answer_unique E R other (held bytes) (role_asked q) q.person YES b.word member b.answers in
      ap (λ (x : Outcome). x.verdict) b.outcome ∙ ap verdict_number (sym same)

  pub stays : (is_open other : Open) (after_one after_two : Lent) (one two : Outcome)
      → AnsweredWith (holding_with is_open bytes) q before after_one one → AnsweredWith (holding_with other bytes) q before after_two two
      → Stays one after_one two after_two
  stays is_open other after_one after_two one two a b =
      record {
        sure = table_same a.sure b.sure;
        rounds = rounds_unique (held bytes) _ _ a.rounds b.rounds;
        yes = (yes_also is_open other a b, yes_also other is_open b a);
      }

-- ---- more roles are open with a sheet

module _ (sheet bytes : List ℕ) where
  pub opens_more : (ρ : Role) → open_of bytes ρ ≡ true → open_by_sheet sheet bytes ρ ≡ true
  opens_more (A · r) e = rw e

  pub unsure_not_no : (cs : List Credential) (ρ : Role) (D : ℕ) → Answers (entities_of bytes) (names_of bytes) (open_of bytes) cs ρ D UNSURE
      → Answers (entities_of bytes) (names_of bytes) (open_by_sheet sheet bytes) cs ρ D NO → ⊥
  unsure_not_no cs ρ D (_, possible) never =
      possible (λ (ks, completes, m). never (ks, λ k i. let (valid, o) = completes k i in (valid, opens_more (head k) o), m))

  -- ---- a sheet that changes nothing

  or_none : (x y : Bool) → y ≡ false → (x || y) ≡ x
  or_none true y e = refl
  or_none false y e = e

  -- no name has code 1 or 2, or no shelf is absent
  abbrev pub NothingLoose : Type 0
  NothingLoose = ((r : ℕ) → IsName (names_of bytes) r → loose sheet r ≡ false) ⊎ (some_absent (shelves bytes) (entities_of bytes) ≡ false)

  pub nothing_changes : NothingLoose → SameWithin (entities_of bytes) (names_of bytes) (open_by_sheet sheet bytes) (open_of bytes)
  nothing_changes h (A · r) v = or_none (is_absent (shelves bytes A)) (loose sheet r && some_absent (shelves bytes) (entities_of bytes)) (closed h)
    where
      closed : NothingLoose → (loose sheet r && some_absent (shelves bytes) (entities_of bytes)) ≡ false
      closed (inl none) = and_left (loose sheet r) _ (none r v.1)
      closed (inr present) = and_right (loose sheet r) _ present
