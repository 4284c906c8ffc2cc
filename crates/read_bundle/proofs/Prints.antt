-- The line of an input: the sizes of a bundle are small numbers, the line is that of what the reader answers, an input that is longer than any bundle has the line of refusal 1 at 0, and
-- no input has two lines.
use Rattle.std.specs.Prelude.{Err}
use Prim.Native.Nat.{ℕ, ◌<◌}
use native.Mathlib.Omega.{arith}
use mathlib.Core.Path.{◌≡◌, refl, sym, ap, ◌∙◌}
use mathlib.Core.List.{List}
use Rattle.base.specs.Refused.{refusal_at}
use Rattle.bundle.specs.declared.read.Sizes.{Sizes}
use Rattle.bundle.specs.Rows.{reader_rows, Reads, Accepts}
use Rattle.bundle.proofs.Refusals.{reader_places}
use Rattle.bundle.proofs.Accepted.{accepted_contents}
use Rattle.bundle.proofs.Determined.{reads_refused}
use Rattle.answers.specs.declared.line.Text.{Text}
use Rattle.answers.specs.Line.{refusal_line, accepted_line}
use Rattle.said.specs.Said.{HoldsAllowed}
use Rattle.said.specs.Line.{refuses, gives}
use Rattle.said.proofs.Saying.{one_held}
use Rattle.said.proofs.Line.{one_line}
use Rattle.read_bundle.specs.Prints.{AcceptedLine, Prints}
pub use Rattle.read_bundle.specs.Longer.{prints_longer}

-- what block 0 of an accepted bundle says are bytes
pub sizes_small : (input : List ℕ) (s : Sizes) → Accepts input s → (s.entities < 256) × (s.names < 256) × (s.records < 256)
sizes_small input s a = let contents = accepted_contents input s a in (omega arith, omega arith, omega arith)

pub prints_refused : (input : List ℕ) (number place : ℕ) → Reads input (Err (refusal_at number place)) → Prints input (refusal_line number place)
prints_refused input number place r = refuses number place (reads_refused input number place r) refl

pub prints_accepted : (input : List ℕ) (s : Sizes) → Accepts input s → Prints input (accepted_line s.entities s.names s.records)
prints_accepted input s a = gives a.clear (ap (λ (t : Sizes). accepted_line t.entities t.names t.records) a.said)

pub prints_once : (input one two : List ℕ) → Prints input one → Prints input two → one ≡ two
prints_once input = one_line (reader_rows input) (AcceptedLine input) (reader_places input) (λ one two e f. e ∙ sym f)

pub text_once : (input : List ℕ) {one two : Text} → HoldsAllowed (Prints input) one → HoldsAllowed (Prints input) two → one ≡ two
text_once input = one_held (prints_once input)
