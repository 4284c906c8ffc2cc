-- The bytes of standard input for `ask_with_sheet`: D, A, r as for `ask`, then a sheet, and then a bundle. Where there are fewer bytes than the
-- question and a sheet have, the bundle is empty, and the sheet is what stands behind the question.
use Rattle.std.specs.Prelude.{ℕ, ◌+◌, List, take, drop}
use Rattle.asked.specs.Behind.{bundle_behind, longest_behind}
use Rattle.asked.specs.Input.{question_bytes}

abbrev pub sheet_bytes : ℕ
sheet_bytes = 512

-- the bytes before the bundle
abbrev pub front_bytes : ℕ
front_bytes = question_bytes + sheet_bytes

-- the bytes of the longest question
abbrev pub longest_input : ℕ
longest_input = longest_behind front_bytes

abbrev pub sheet_of : List ℕ → List ℕ
sheet_of input = take sheet_bytes (drop question_bytes input)

abbrev pub bundle_of : List ℕ → List ℕ
bundle_of input = bundle_behind front_bytes input
