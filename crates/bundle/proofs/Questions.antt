-- A question within its range: the test of refusal 7, its row, and what it says where the row does not apply.
use Prim.Native.Nat.{ℕ}
use mathlib.Core.Path.{◌≡◌, refl}
use mathlib.Core.Bool.{true, false, ◌||◌}
use mathlib.Core.List.{List}
use native.Mathlib.Omega.{arith}
use Rattle.rt0.specs.Credential.{IsEntity, IsName}
use Rattle.base.specs.Range.{outside}
use Rattle.base.specs.Refusals.{Applies}
use Rattle.base.proofs.Flags.{Tells, or_tells_three, outside_tells, or_false, inside, inside_flag, not_true_false, clash_flag}
use Rattle.bundle.specs.declared.read.Sizes.{Sizes}
use Rattle.bundle.specs.declared.question.Question.{Question}
use Rattle.bundle.specs.Layout.{entities_of, names_of}
use Rattle.bundle.specs.Rows.{Accepts}
use Rattle.bundle.specs.Question.{QuestionWrong, question_wrong, question_row, Asked}

pub question_tells : (E R : ℕ) (q : Question) → Tells (question_wrong E R q) (QuestionWrong E R q)
question_tells E R q = or_tells_three _ _ _ (outside_tells E q.person) (outside_tells E q.entity) (outside_tells R q.name)

-- the question is within E and R
pub question_within : (E R : ℕ) (q : Question) → question_wrong E R q ≡ false
    → IsEntity E q.person × IsEntity E q.entity × IsName R q.name
question_within E R q h =
    let (people, name) = or_false (outside E q.person || outside E q.entity) (outside R q.name) h in
    let (person, entity) = or_false (outside E q.person) (outside E q.entity) people in (
      omega (arith, inside E q.person person),
      omega (arith, inside E q.entity entity),
      omega (arith, inside R q.name name),
    )

module _ (bytes : List ℕ) (s : Sizes) (q : Question) (h : Accepts bytes s) where
  -- an accepted bundle and a question that the test lets pass
  pub asked_right : question_wrong s.entities s.names q ≡ false → Asked bytes s q
  asked_right w =
      let (person, entity, name) = question_within s.entities s.names q w in
      record { accepts = h; person = person; entity = entity; name = name }

  -- the row applies where the test holds, and not where it does not
  pub question_applies : question_wrong s.entities s.names q ≡ true → (question_row bytes q).At 0
  question_applies w =
      let E : s.entities ≡ entities_of bytes = cc h.said in
      let R : s.names ≡ names_of bytes = cc h.said in
      (refl, (question_tells (entities_of bytes) (names_of bytes) q).0 (rw (← E, ← R) w))

  pub question_clear : question_wrong s.entities s.names q ≡ false → Applies (question_row bytes q) → ⊥
  question_clear w (place, (z, wrong)) =
      let E : s.entities ≡ entities_of bytes = cc h.said in
      let R : s.names ≡ names_of bytes = cc h.said in
      clash_flag ((question_tells (entities_of bytes) (names_of bytes) q).1 wrong) (rw (E, R) at w)

  -- where the row does not apply the question is within its range, and the other way round
  pub clear_asked : (Applies (question_row bytes q) → ⊥) → Asked bytes s q
  clear_asked none = asked_right (not_true_false _ (λ w. none (0, question_applies w)))

pub asked_clear : (bytes : List ℕ) (s : Sizes) (q : Question) → Asked bytes s q → Applies (question_row bytes q) → ⊥
asked_clear bytes s q a =
    question_clear bytes s q a.accepts
    (rw (
      inside_flag s.entities q.person a.person.above a.person.within,
      inside_flag s.entities q.entity a.entity.above a.entity.within,
      inside_flag s.names q.name a.name.above a.name.within,
    ))
