-- The line of an input: one that is too long for any question has the line of refusal 1 at 0, and no input has two lines.
use Prim.Native.Nat.{ℕ}
use mathlib.Core.Path.{◌≡◌}
use mathlib.Core.List.{List, [], ◌∷◌}
use Rattle.base.specs.Refusals.{AllOnePlace}
use Rattle.base.proofs.Refusals.{one_place_both, zero_place}
use Rattle.bundle.specs.Layout.{names_of}
use Rattle.bundle.specs.Rows.{reader_rows}
use Rattle.bundle.specs.Question.{question_row}
use Rattle.bundle.proofs.Refusals.{reader_places}
use Rattle.sheet.specs.Sheet.{sheet_row}
use Rattle.said.proofs.Line.{one_line}
use Rattle.asked.specs.Input.{question_of}
use Rattle.asked.specs.Prints.{AnsweredLine}
use Rattle.asked.proofs.Answered.{answered_once}
use Rattle.ask_with_sheet.specs.Input.{sheet_of, bundle_of}
use Rattle.ask_with_sheet.specs.Prints.{ask_rows, holding_of, Prints}
pub use Rattle.ask_with_sheet.specs.Longer.{prints_longer}

ask_places : (input : List ℕ) → AllOnePlace (ask_rows input)
ask_places input =
    let bundle = bundle_of input in
    one_place_both (reader_rows bundle) (sheet_row (names_of bundle) (sheet_of input) ∷ question_row bundle (question_of input) ∷ [])
    (reader_places bundle) (zero_place _, (zero_place _, tt))

pub prints_once : (input one two : List ℕ) → Prints input one → Prints input two → one ≡ two
prints_once input =
    one_line (ask_rows input) (AnsweredLine (holding_of input) (question_of input)) (ask_places input) (answered_once (holding_of input) (question_of input))
