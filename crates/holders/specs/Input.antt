-- The bytes of standard input for `holders`: a sheet of 512 bytes, and then a bundle; with fewer bytes the bundle is empty.
use Rattle.std.specs.Prelude.{ℕ, List, take}
use Rattle.asked.specs.Behind.{bundle_behind, longest_behind}

-- the bytes of a sheet
abbrev pub sheet_bytes : ℕ
sheet_bytes = 512

-- the bytes of the longest input
abbrev pub longest_input : ℕ
longest_input = longest_behind sheet_bytes

abbrev pub sheet_of : List ℕ → List ℕ
sheet_of input = take sheet_bytes input

abbrev pub bundle_of : List ℕ → List ℕ
bundle_of input = bundle_behind sheet_bytes input
