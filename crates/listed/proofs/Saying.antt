-- What is rightly said of a buffer that standard input was read into, by a program of lists: each kind of input by itself.
use Prim.Native.Nat.{ℕ, ◌<◌, ◌≤◌}
use native.Mathlib.Omega.{arith}
use mathlib.Core.Path.{◌≡◌, refl}
use mathlib.Core.List.{List, []}
use lib.ListN.{length, take}
use Rattle.std.specs.Prelude.{Result, Ok, Err}
use Rattle.answers.specs.Line.{Holds}
use Rattle.input.specs.declared.Input.{Input}
use Rattle.input.specs.declared.Input.TheVariants.{Whole, Longer}
use Rattle.said.specs.Said.{PrintsLonger}
use Rattle.said.proofs.Saying.{by_whole, by_longer, by_failed, prints_every_longer}
use Rattle.listed.specs.declared.Listing.{Listing}
use Rattle.listed.specs.Listing.{ListsAllowed, RightlyListed}

module _ (text : List ℕ) (l : Listing) where
  -- no byte of the text, and a line
  line_alone : (Allowed : List ℕ → Type 0) (line : List ℕ) → l.length ≡ 0 → Holds l.line line → Allowed line → ListsAllowed text l Allowed
  line_alone Allowed line none holds allowed = record { inside = omega arith; line = line; holds = holds; allowed = rw none allowed }

  -- a line that every input longer than some bound may have, and the buffer is no shorter than that
  pub line_longer : (Prints : List ℕ → List ℕ → Type 0) (buffer : List ℕ) (longest : ℕ) (line : List ℕ)
      → ((input : List ℕ) → longest < length input → Prints input line) → longest ≤ length buffer
      → l.length ≡ 0 → Holds l.line line → ListsAllowed text l (PrintsLonger Prints buffer)
  line_longer Prints buffer longest line prints room none holds =
      line_alone (PrintsLonger Prints buffer) line none holds (prints_every_longer Prints buffer longest line prints room)

module _ {E : Type 0} (Prints : List ℕ → List ℕ → Type 0) (unreadable : List ℕ) (got : Result Input E) (buffer text : List ℕ) (l : Listing) where
  pub listed_whole : (n : ℕ) → got ≡ Ok (Whole n) → ListsAllowed text l (Prints (take n buffer)) → Holds l.problem []
      → RightlyListed Prints unreadable got buffer text l
  listed_whole n e out problem = by_whole (ListsAllowed text l) l.problem Prints unreadable got buffer n e out problem

  pub listed_longer : (longest : ℕ) (line : List ℕ) → ((input : List ℕ) → longest < length input → Prints input line) → longest ≤ length buffer
      → got ≡ Ok Longer → l.length ≡ 0 → Holds l.line line → Holds l.problem [] → RightlyListed Prints unreadable got buffer text l
  listed_longer longest line prints room e none holds problem =
      by_longer (ListsAllowed text l) l.problem Prints unreadable got buffer e
      (line_longer text l Prints buffer longest line prints room none holds) problem

  pub listed_failed : {error : E} → got ≡ Err error → l.length ≡ 0 → Holds l.line [] → Holds l.problem unreadable
      → RightlyListed Prints unreadable got buffer text l
  listed_failed e none holds problem =
      by_failed (ListsAllowed text l) l.problem Prints unreadable got buffer e (line_alone text l (λ shown. shown ≡ []) [] none holds refl) problem
