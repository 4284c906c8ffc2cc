-- The line of an input: one that is too long for any question has the line of refusal 1 at 0, and no input has two lines.
use Prim.Native.Nat.{ℕ, ◌<◌}
use native.Mathlib.Omega.{arith}
use mathlib.Core.Path.{◌≡◌, refl}
use mathlib.Core.Logic.{inl, inr}
use mathlib.Core.List.{List, [], ◌∷◌}
use lib.ListN.{length, length-drop}
use Rattle.base.specs.Refusals.{AllOnePlace}
use Rattle.base.proofs.Refusals.{one_place_both, zero_place}
use Rattle.bundle.specs.Rows.{reader_rows}
use Rattle.bundle.specs.Question.{question_row}
use Rattle.bundle.specs.Held.{holding_in}
use Rattle.bundle.proofs.Refusals.{reader_places}
use Rattle.answers.specs.declared.line.Text.{Text}
use Rattle.answers.specs.Line.{refusal_line}
use Rattle.said.specs.Said.{HoldsAllowed}
use Rattle.said.specs.Line.{refuses}
use Rattle.said.proofs.Saying.{one_held}
use Rattle.said.proofs.Line.{one_line}
use Rattle.asked.specs.Input.{longest_input, bundle_of, question_of}
use Rattle.asked.specs.Prints.{ask_rows, AnsweredLine, Prints}
use Rattle.asked.proofs.Answered.{answered_once}

pub prints_longer : (input : List ℕ) → longest_input < length input → Prints input (refusal_line 1 0)
prints_longer input long = refuses 1 0 (inl (refl, (refl, inr (inl (omega (arith, length-drop 3 input)))))) refl

ask_places : (input : List ℕ) → AllOnePlace (ask_rows input)
ask_places input =
    let bundle = bundle_of input in
    one_place_both (reader_rows bundle) (question_row bundle (question_of input) ∷ []) (reader_places bundle) (zero_place _, tt)

pub prints_once : (input one two : List ℕ) → Prints input one → Prints input two → one ≡ two
prints_once input =
    let h = holding_in (bundle_of input) in
    one_line (ask_rows input) (AnsweredLine h (question_of input)) (ask_places input) (answered_once h (question_of input))

pub text_once : (input : List ℕ) {one two : Text} → HoldsAllowed (Prints input) one → HoldsAllowed (Prints input) two → one ≡ two
text_once input = one_held (prints_once input)
