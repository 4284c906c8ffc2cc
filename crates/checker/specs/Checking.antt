-- The checker's answer as tests that compute, in the order of the rows: each stage has the tests from its own on.
use Rattle.std.specs.Prelude.{ℕ, ◌/◌, ◌%◌, Bool, cond, not, ◌||◌, List, [], ◌∷◌, length, eqb, ltb, Result, Ok, Err}
use Rattle.rt0.specs.Credential.{Role}
use Rattle.rt0.specs.Book.{Book, item}
use Rattle.rt0.specs.Slip.{◌∋◌, stated}
use Rattle.rt0.specs.Bytes.{lines_of}
use Rattle.rt0.specs.Sizes.{slip_bytes}
use Rattle.base.specs.declared.refusal.Refusal.{Refusal as Refused}
use Rattle.base.specs.Refused.{refusal_at}
use Rattle.base.specs.Refusals.{Refusal, given, clear, Test, test, zero_if, lowest_from_one, first}
use Rattle.bundle.specs.declared.question.Question.{Question}
use Rattle.bundle.specs.declared.read.Sizes.{Sizes}
use Rattle.bundle.specs.Reading.{read_of}
use Rattle.bundle.specs.Held.{book_in}
use Rattle.bundle.specs.Question.{role_asked, question_wrong}
use Rattle.checker.specs.Premise.{same_fact, line_wrong}

-- the slip's length is 0, above 61,440 or no multiple of 8
abbrev pub slip_length_wrong : ℕ → Bool
slip_length_wrong n = eqb n 0 || ltb slip_bytes n || not (eqb (n % 8) 0)

-- the last of n lines states that D is in ρ
abbrev pub last_states : Book → Role → ℕ → List ℕ → ℕ → Bool
last_states book ρ D slip n = same_fact (stated book (item (lines_of slip n) n)) (ρ ∋ D)

-- the last line, where all lines are right
unfoldable pub last_tests : Book → Role → ℕ → List ℕ → List Test
last_tests book ρ D slip = test 11 (zero_if (not (last_states book ρ D slip (length slip / 8)))) ∷ []

-- the lines
unfoldable pub line_tests : Book → Role → ℕ → List ℕ → List Test
line_tests book ρ D slip = test 10 (lowest_from_one (line_wrong book slip) (length slip / 8)) ∷ last_tests book ρ D slip

-- the slip
unfoldable pub slip_tests : Book → Role → ℕ → List ℕ → List Test
slip_tests book ρ D slip = test 9 (zero_if (slip_length_wrong (length slip))) ∷ line_tests book ρ D slip

-- the answer for a refusal, or for none
abbrev pub checked_for : List ℕ → Refusal → Result ℕ (Refused ℕ)
checked_for slip (given number place) = Err (refusal_at number place)
checked_for slip clear = Ok (length slip / 8)

-- the answer by some tests
unfoldable pub check_by : List ℕ → List Test → Result ℕ (Refused ℕ)
check_by slip tests = checked_for slip (first tests)

-- the question, and then the slip, for what the reader answered
unfoldable pub check_after : Result Sizes (Refused ℕ) → List ℕ → Question → List ℕ → Result ℕ (Refused ℕ)
check_after (Err why) bundle q slip = Err why
check_after (Ok s) bundle q slip =
    cond (question_wrong s.entities s.names q) (Err (refusal_at 7 0))
    (check_by slip (slip_tests (book_in bundle) (role_asked q) q.person slip))

-- the answer to every bundle, question and slip
abbrev pub checking_of : List ℕ → Question → List ℕ → Result ℕ (Refused ℕ)
checking_of bundle q slip = check_after (read_of bundle) bundle q slip
