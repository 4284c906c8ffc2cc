-- The bytes of standard input for `members`: A, r, and then a bundle.
use Rattle.std.specs.Prelude.{ℕ, List}
use Rattle.rt0.specs.Credential.{Role, ◌·◌}
use Rattle.base.specs.Byte.{byte_at}
use Rattle.asked.specs.Behind.{bundle_behind, longest_behind}

-- the bytes of a question before its bundle
abbrev pub question_bytes : ℕ
question_bytes = 2

-- the bytes of the longest question
abbrev pub longest_input : ℕ
longest_input = longest_behind question_bytes

abbrev pub bundle_of : List ℕ → List ℕ
bundle_of input = bundle_behind question_bytes input

-- the role whose members are asked for
abbrev pub role_of : List ℕ → Role
role_of input = byte_at input 0 · byte_at input 1
