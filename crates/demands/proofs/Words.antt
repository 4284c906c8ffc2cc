-- The verdict of an answer is the number of a word exactly if RT0 gives that word, whatever roles are open.
use Prim.Native.Nat.{ℕ}
use mathlib.Core.Path.{◌≡◌, refl, sym, ap, ◌∙◌}
use mathlib.Core.Bool.{cond}
use mathlib.Core.Logic.{◌↔◌}
use lib.Dec.{eqb}
use Rattle.rt0.specs.Completion.{Verdict, YES, NO, UNSURE, Answers}
use Rattle.rt0.specs.Holding.{Holding}
use Rattle.rt0.proofs.Possible.{answer_unique}
use Rattle.bundle.specs.declared.question.Question.{Question}
use Rattle.bundle.specs.Question.{role_asked}
use Rattle.answers.specs.Answer.{Outcome, verdict_number}
use Rattle.search.specs.Promise.{Lent, AnsweredWith}

-- the word that a number stands for
abbrev word_of : ℕ → Verdict
word_of n = cond (eqb n 1) YES (cond (eqb n 2) NO UNSURE)

word_back : (v : Verdict) → word_of (verdict_number v) ≡ v
word_back YES = refl
word_back NO = refl
word_back UNSURE = refl

same_word : (v w : Verdict) → verdict_number v ≡ verdict_number w → v ≡ w
same_word v w e = sym (word_back v) ∙ ap word_of e ∙ word_back w

module _ {h : Holding} {q : Question} {before after : Lent} {o : Outcome} (answer : AnsweredWith h q before after o) where
  verdict_word : o.verdict ≡ verdict_number answer.word
  verdict_word = ap (λ (x : Outcome). x.verdict) answer.outcome

  pub word_is : (word : Verdict) → o.verdict ≡ verdict_number word → answer.word ≡ word
  word_is word e = same_word answer.word word (sym verdict_word ∙ e)

  pub word_exactly : (word : Verdict) → (o.verdict ≡ verdict_number word)
      ↔ Answers h.entities h.names h.is_open h.held (role_asked q) q.person word
  word_exactly word = (
    λ e. rw (word_is word e) at answer.answers,
    λ a. verdict_word ∙ ap verdict_number (answer_unique _ _ h.is_open _ _ _ answer.word word answer.answers a),
  )
