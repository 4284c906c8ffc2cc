-- A bundle behind the bytes of a question, on standard input: where there are fewer bytes than the question has, the bundle is empty.
use Rattle.std.specs.Prelude.{ℕ, ◌+◌, List, drop}
use Rattle.bundle.specs.Layout.{longest_bundle}

-- the bundle behind so many bytes
abbrev pub bundle_behind : ℕ → List ℕ → List ℕ
bundle_behind question input = drop question input

-- the bytes of the longest input with so many before its bundle
abbrev pub longest_behind : ℕ → ℕ
longest_behind question = question + longest_bundle
