-- The bytes of standard input for `ask`: D, A, r, and then a bundle.
use Rattle.std.specs.Prelude.{ℕ, List}
use Rattle.base.specs.Byte.{byte_at}
use Rattle.bundle.specs.declared.question.Question.{Question}
use Rattle.bundle.specs.Question.{question}
use Rattle.asked.specs.Behind.{bundle_behind, longest_behind}

-- the bytes of a question before its bundle
abbrev pub question_bytes : ℕ
question_bytes = 3

-- the bytes of the longest question
abbrev pub longest_input : ℕ
longest_input = longest_behind question_bytes

abbrev pub bundle_of : List ℕ → List ℕ
bundle_of input = bundle_behind question_bytes input

abbrev pub question_of : List ℕ → Question
question_of input = question (byte_at input 0) (byte_at input 1) (byte_at input 2)
