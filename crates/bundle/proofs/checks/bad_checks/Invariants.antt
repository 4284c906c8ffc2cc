-- `bundle::checks::bad_checks` meets its contract. The invariant: the bits say of the first k blocks whether their checks differ.
use mathlib.Core.Path.{◌≡◌}
use Rattle.bundle.specs.Layout.{bad_check}
use Rattle.rt0.specs.Word.{bits_below}
use Rattle.bundle.proofs.checks.bad_checks.Given as goal

abbrev pub invariant-loop-k : goal.invariant-loop-k
invariant-loop-k l = (l.word ≡ bits_below (bad_check l.bundle) l.k)
