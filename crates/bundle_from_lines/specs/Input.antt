-- The bytes of standard input for `bundle_from_lines`: E, R, a mark for each of the 32 shelves, and then lines of text. Where there are fewer
-- bytes the marks are not 32, and so they are wrong.
use Rattle.std.specs.Prelude.{ℕ, ◌+◌, List, take, drop}
use Rattle.base.specs.Byte.{byte_at}

-- the bytes before the text
abbrev pub head_bytes : ℕ
head_bytes = 34

-- the bytes of the longest text: 240 lines of 39
abbrev pub longest_text : ℕ
longest_text = 9360

-- the bytes of the longest input that is not refused
abbrev pub longest_input : ℕ
longest_input = head_bytes + longest_text

abbrev pub entities_given : List ℕ → ℕ
entities_given input = byte_at input 0

abbrev pub names_given : List ℕ → ℕ
names_given input = byte_at input 1

abbrev pub marks_given : List ℕ → List ℕ
marks_given input = take 32 (drop 2 input)

abbrev pub text_given : List ℕ → List ℕ
text_given input = drop head_bytes input
