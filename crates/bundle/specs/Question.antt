-- A question, D, A, r: is D in A.r? And its row of the table of refusals, 7.
use Rattle.std.specs.Prelude.{ℕ, Bool, ◌||◌, ◌⊎◌, List}
use Rattle.rt0.specs.Credential.{Role, ◌·◌, IsEntity, IsName}
use Rattle.base.specs.Range.{Outside, outside}
use Rattle.base.specs.Refusals.{Row, row, AtZero}
use Rattle.bundle.specs.declared.read.Sizes.{Sizes}
use Rattle.bundle.specs.declared.question.Question.{Question}
use Rattle.bundle.specs.Layout.{entities_of, names_of}
use Rattle.bundle.specs.Rows.{Accepts}

abbrev pub question : ℕ → ℕ → ℕ → Question
question D A r = record { person = D; entity = A; name = r }

-- the role that is asked about
abbrev pub role_asked : Question → Role
role_asked q = q.entity · q.name

-- D, A above E or 0; r above R or 0
abbrev pub QuestionWrong : ℕ → ℕ → Question → Type 0
QuestionWrong E R q = Outside E q.person ⊎ (Outside E q.entity ⊎ Outside R q.name)

abbrev pub question_wrong : ℕ → ℕ → Question → Bool
question_wrong E R q = outside E q.person || outside E q.entity || outside R q.name

-- over the E and R of a bundle
abbrev pub question_row : List ℕ → Question → Row
question_row bytes q = row 7 (AtZero (QuestionWrong (entities_of bytes) (names_of bytes) q))

-- the bundle is accepted, with these sizes, and the question is within its E and R
pub record Asked (bytes : List ℕ) (s : Sizes) (q : Question) : Type 0 where
  pub accepts : Accepts bytes s
  pub person : IsEntity s.entities q.person
  pub entity : IsEntity s.entities q.entity
  pub name : IsName s.names q.name
