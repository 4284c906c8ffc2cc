-- The line of a refusal is no bundle: the reader refuses it for its length, which is no multiple of 512.
use Prim.Native.Nat.{ℕ, ◌+◌, ◌<◌, ◌≤◌}
use native.Mathlib.Omega.{arith}
use mathlib.Core.Path.{◌≡◌}
use mathlib.Core.Logic.{inr}
use lib.ListN.{length, length-append}
use Rattle.bundle.specs.Rows.{LengthWrong}
use Rattle.text.specs.Decimal.{decimal}
use Rattle.text.proofs.Decimal.{five_digits}
use Rattle.answers.specs.Line.{refusal_line}
use Rattle.desk.specs.Answer.{most_place}

pub refusal_no_bundle : (number place : ℕ) → number < 256 → place ≤ most_place → LengthWrong (length (refusal_line number place))
refusal_no_bundle number place l m =
    inr (inr (λ e. omega (arith, size, e, five_digits number (omega arith), five_digits place (omega arith))))
  where
    size : length (refusal_line number place) ≡ 10 + (length (decimal number) + length (decimal place))
    size = simp length-append (omega arith)
