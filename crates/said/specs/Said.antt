-- What a program rightly says of a buffer that standard input was read into: a text for standard output and one for standard error. It is
-- said once for every program: which bytes may be printed for an input, and the message where it cannot be read, are parameters.
use Rattle.std.specs.Prelude.{ℕ, ◌<◌, ◌≡◌, List, [], ◌++◌, length, take, Result, Ok, Err}
use Rattle.answers.specs.declared.line.Text.{Text}
use Rattle.answers.specs.Line.{Holds}
use Rattle.input.specs.declared.Failed.{Failed}
use Rattle.input.specs.declared.Input.{Input}
use Rattle.input.specs.declared.Input.TheVariants.{Whole, Longer}
use Rattle.input.specs.Input.{Filled}
use Rattle.said.specs.declared.Said.{Said}

-- the bytes that a text shows
abbrev pub shown_by : Text → List ℕ
shown_by text = take text.length text.bytes

-- a text holds bytes that are allowed
pub record HoldsAllowed (Allowed : List ℕ → Type 0) (text : Text) : Type 0 where
  pub shown : List ℕ
  pub holds : Holds text shown
  pub allowed : Allowed shown

-- a buffer that standard input was read into, and what reading said of it
abbrev pub Read : Result Input Failed → List ℕ → Type 0
Read got buffer = (before : List ℕ) × Filled before buffer got

-- bytes that may be printed for every input longer than this buffer, which holds its first bytes
abbrev pub PrintsLonger : (List ℕ → List ℕ → Type 0) → List ℕ → List ℕ → Type 0
PrintsLonger Prints buffer shown = (more : List ℕ) → 0 < length more → Prints (buffer ++ more) shown

-- What is rightly said of the buffer, whatever holds the output: Shows says of bytes that may be printed that it holds such bytes. The whole
-- input: bytes that may be printed for it. An input longer than the buffer: bytes that may be printed for every such input. A read failed: no
-- output, and the message.
abbrev pub RightlyBy : {E : Type 0} → ((List ℕ → Type 0) → Type 0) → Text → (List ℕ → List ℕ → Type 0) → List ℕ → Result Input E → List ℕ → Type 0
RightlyBy Shows problem Prints unreadable (Ok (Whole n)) buffer = Shows (Prints (take n buffer)) × Holds problem []
RightlyBy Shows problem Prints unreadable (Ok Longer) buffer = Shows (PrintsLonger Prints buffer) × Holds problem []
RightlyBy Shows problem Prints unreadable (Err error) buffer = Shows (λ shown. shown ≡ []) × Holds problem unreadable

-- .. where a text holds it
abbrev pub Rightly : {E : Type 0} → (List ℕ → List ℕ → Type 0) → List ℕ → Result Input E → List ℕ → Said → Type 0
Rightly Prints unreadable got buffer said = RightlyBy (λ Allowed. HoldsAllowed Allowed said.out) said.problem Prints unreadable got buffer
