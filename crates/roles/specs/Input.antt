-- The bytes of standard input for `roles`: D, and then a bundle.
use Rattle.std.specs.Prelude.{ℕ, List}
use Rattle.base.specs.Byte.{byte_at}
use Rattle.asked.specs.Behind.{bundle_behind, longest_behind}

-- the bytes of a question before its bundle
abbrev pub question_bytes : ℕ
question_bytes = 1

-- the bytes of the longest question
abbrev pub longest_input : ℕ
longest_input = longest_behind question_bytes

abbrev pub bundle_of : List ℕ → List ℕ
bundle_of input = bundle_behind question_bytes input

-- the person whose roles are asked for
abbrev pub person_of : List ℕ → ℕ
person_of input = byte_at input 0
