-- `checker::line::Accepted::check_slip` meets its contract.
use Rattle.std.specs.Prelude.{ℕ, Result, Err}
use Prim.Native.Nat.{◌/◌}
use native.Mathlib.Omega.{arith}
use mathlib.Core.Path.{◌≡◌, ◌∙◌, ap}
use lib.ListN.{length}
use Rattle.base.specs.declared.refusal.Refusal.{Refusal}
use Rattle.bundle.specs.Held.{book_in}
use Rattle.bundle.specs.Question.{role_asked}
use Rattle.checker.specs.Checking.{last_states, last_tests, slip_tests, check_by}
use Rattle.checker.proofs.Answers.{slip_length_right, last_is, last_refused, last_passed}
use Rattle.checker.proofs.Answers.{lines_refused, lines_passed, length_refused, length_passed}
use Rattle.checker.proofs.line.Accepted.check_slip.Goals as goal

pub returns-then-size : goal.returns-then-size
returns-then-size c = ap Err c.at.ensures ∙ length_refused _ _ _ c.args.slip.now c.if-size.true

pub first_broken-i-requires : goal.first_broken-i-requires
first_broken-i-requires c =
    (slip_length_right (length c.args.slip.now) c.if-size.false).1

pub overflow_cast-result : goal.overflow_cast-result
overflow_cast-result c =
    omega (arith, slip_length_right (length c.args.slip.now) c.if-size.false)

pub returns-then-i-lines : goal.returns-then-i-lines
returns-then-i-lines c =
    let slip = c.args.slip.now in
    ap Err c.at-then-i-lines.ensures ∙ lines_refused _ _ _ slip _ c.first_broken-i.ensures c.if-i-lines.true ∙ length_passed _ _ _ slip c.if-size.false

pub stated-last-requires : goal.stated-last-requires
stated-last-requires c =
    (slip_length_right (length c.args.slip.now) c.if-size.false).1

pub returns-then-not-same : goal.returns-then-not-same
returns-then-not-same c =
    let last_told : last_states (book_in c.args.self.now.bytes.now) (role_asked c.args.question) c.args.question.person (c.args.slip.now) (length (c.args.slip.now) / 8) ≡ c.same.result =
    last_is (book_in c.args.self.now.bytes.now) (role_asked c.args.question) _ (c.args.slip.now) (length (c.args.slip.now) / 8) _ _ c.stated-last.ensures c.same.ensures in
    let last_answers : (answer : Result ℕ (Refusal ℕ))
    → answer ≡ check_by (c.args.slip.now) (last_tests (book_in c.args.self.now.bytes.now) (role_asked c.args.question) c.args.question.person (c.args.slip.now))
    → answer ≡ check_by (c.args.slip.now) (slip_tests (book_in c.args.self.now.bytes.now) (role_asked c.args.question) c.args.question.person (c.args.slip.now)) =
    λ answer e. e ∙ lines_passed (book_in c.args.self.now.bytes.now) (role_asked c.args.question) _ (c.args.slip.now) _ c.first_broken-i.ensures c.if-i-lines.false
    ∙ length_passed (book_in c.args.self.now.bytes.now) (role_asked c.args.question) _ (c.args.slip.now) c.if-size.false in
    ap Err c.at-then-not-same.ensures ∙ last_answers _ (last_refused (book_in c.args.self.now.bytes.now) (role_asked c.args.question) _ (c.args.slip.now) (last_told ∙ c.if-not-same.true))

pub overflow_cast-i : goal.overflow_cast-i
overflow_cast-i c =
    omega (arith, slip_length_right (length c.args.slip.now) c.if-size.false)

pub returns : goal.returns
returns c =
    let last_told : last_states (book_in c.args.self.now.bytes.now) (role_asked c.args.question) c.args.question.person (c.args.slip.now) (length (c.args.slip.now) / 8) ≡ c.same.result =
    last_is (book_in c.args.self.now.bytes.now) (role_asked c.args.question) _ (c.args.slip.now) (length (c.args.slip.now) / 8) _ _ c.stated-last.ensures c.same.ensures in
    let last_answers : (answer : Result ℕ (Refusal ℕ))
    → answer ≡ check_by (c.args.slip.now) (last_tests (book_in c.args.self.now.bytes.now) (role_asked c.args.question) c.args.question.person (c.args.slip.now))
    → answer ≡ check_by (c.args.slip.now) (slip_tests (book_in c.args.self.now.bytes.now) (role_asked c.args.question) c.args.question.person (c.args.slip.now)) =
    λ answer e. e ∙ lines_passed (book_in c.args.self.now.bytes.now) (role_asked c.args.question) _ (c.args.slip.now) _ c.first_broken-i.ensures c.if-i-lines.false
    ∙ length_passed (book_in c.args.self.now.bytes.now) (role_asked c.args.question) _ (c.args.slip.now) c.if-size.false in
    last_answers _ (last_passed (book_in c.args.self.now.bytes.now) (role_asked c.args.question) _ (c.args.slip.now) (last_told ∙ c.if-not-same.false))
