-- What is rightly said of a buffer that standard input was read into, whatever may be printed: each kind of input by itself, and that what
-- is said is two texts, of which `write_text` writes the bytes that they hold.
use Prim.Native.Nat.{ℕ, ◌<◌, ◌≤◌, min}
use native.Mathlib.Omega.{arith}
use mathlib.Core.Path.{◌≡◌, refl}
use mathlib.Core.List.{List, []}
use lib.ListN.{length, take, length-append}
use Rattle.std.specs.Prelude.{Result, Ok, Err}
use Rattle.answers.specs.Line.{Holds}
use Rattle.answers.specs.declared.line.Text.{Text}
use Rattle.answers.proofs.Text.{one_text}
use Rattle.input.specs.declared.Failed.{Failed}
use Rattle.input.specs.declared.Input.{Input}
use Rattle.input.specs.declared.Input.TheVariants.{Whole, Longer}
use Rattle.input.proofs.Pieces.{whole_fits}
use Rattle.said.specs.declared.Said.{Said}
use Rattle.said.specs.Said.{HoldsAllowed, Read, PrintsLonger, RightlyBy, Rightly}

-- whatever holds the output
module _ {E : Type 0} (Shows : (List ℕ → Type 0) → Type 0) (problem : Text) (Prints : List ℕ → List ℕ → Type 0) (unreadable : List ℕ) (got : Result Input E) (buffer : List ℕ) where
  -- the whole input
  pub by_whole : (n : ℕ) → got ≡ Ok (Whole n) → Shows (Prints (take n buffer)) → Holds problem [] → RightlyBy Shows problem Prints unreadable got buffer
  by_whole n e out said = rw e (out, said)

  -- an input longer than the buffer
  pub by_longer : got ≡ Ok Longer → Shows (PrintsLonger Prints buffer) → Holds problem [] → RightlyBy Shows problem Prints unreadable got buffer
  by_longer e out said = rw e (out, said)

  -- a read that failed
  pub by_failed : {error : E} → got ≡ Err error → Shows (λ shown. shown ≡ []) → Holds problem unreadable
      → RightlyBy Shows problem Prints unreadable got buffer
  by_failed e out said = rw e (out, said)

-- what was read and is whole is no longer than the buffer
pub whole_end : {got : Result Input Failed} {buffer : List ℕ} (n end : ℕ) → got ≡ Ok (Whole n) → end ≡ min n (length buffer) → Read got buffer → end ≡ n
whole_end n end e cut (before, filled) = omega (arith, whole_fits n e filled)

-- every input longer than some bound may have this line, and the buffer is no shorter than that
pub prints_every_longer : (Prints : List ℕ → List ℕ → Type 0) (buffer : List ℕ) (longest : ℕ) (line : List ℕ)
    → ((input : List ℕ) → longest < length input → Prints input line) → longest ≤ length buffer → PrintsLonger Prints buffer line
prints_every_longer Prints buffer longest line prints room more some = prints _ (omega (arith, length-append buffer more))

-- where a text holds the output
module _ {E : Type 0} (Prints : List ℕ → List ℕ → Type 0) (unreadable : List ℕ) (got : Result Input E) (buffer : List ℕ) (said : Said) where
  pub said_whole : (n : ℕ) → got ≡ Ok (Whole n) → HoldsAllowed (Prints (take n buffer)) said.out → Holds said.problem []
      → Rightly Prints unreadable got buffer said
  said_whole n e out problem = by_whole (λ Allowed. HoldsAllowed Allowed said.out) said.problem Prints unreadable got buffer n e out problem

  pub said_longer : (longest : ℕ) (line : List ℕ) → ((input : List ℕ) → longest < length input → Prints input line) → longest ≤ length buffer
      → got ≡ Ok Longer → Holds said.out line → Holds said.problem [] → Rightly Prints unreadable got buffer said
  said_longer longest line prints room e out problem =
      by_longer (λ Allowed. HoldsAllowed Allowed said.out) said.problem Prints unreadable got buffer e
      (record { shown = line; holds = out; allowed = prints_every_longer Prints buffer longest line prints room }) problem

  pub said_failed : {error : E} → got ≡ Err error → Holds said.out [] → Holds said.problem unreadable
      → Rightly Prints unreadable got buffer said
  said_failed e out problem =
      by_failed (λ Allowed. HoldsAllowed Allowed said.out) said.problem Prints unreadable got buffer e
      (record { shown = []; holds = out; allowed = refl }) problem

-- what is rightly said is two texts
module _ {E : Type 0} (Prints : List ℕ → List ℕ → Type 0) (unreadable : List ℕ) where
  pub out_shown : (got : Result Input E) (buffer : List ℕ) (said : Said) → Rightly Prints unreadable got buffer said
      → (shown : List ℕ) × Holds said.out shown
  out_shown (Ok (Whole n)) buffer said r = (_, r.0.holds)
  out_shown (Ok Longer) buffer said r = (_, r.0.holds)
  out_shown (Err error) buffer said r = (_, r.0.holds)

  pub problem_shown : (got : Result Input E) (buffer : List ℕ) (said : Said) → Rightly Prints unreadable got buffer said
      → (shown : List ℕ) × Holds said.problem shown
  problem_shown (Ok (Whole n)) buffer said r = (_, r.1)
  problem_shown (Ok Longer) buffer said r = (_, r.1)
  problem_shown (Err error) buffer said r = (_, r.1)

-- where the allowed bytes are one line, there is one text
pub one_held : {Allowed : List ℕ → Type 0} {a b : Text} → ((one two : List ℕ) → Allowed one → Allowed two → one ≡ two)
    → HoldsAllowed Allowed a → HoldsAllowed Allowed b → a ≡ b
one_held once a b = one_text a.holds (rw (once a.shown b.shown a.allowed b.allowed) b.holds)
