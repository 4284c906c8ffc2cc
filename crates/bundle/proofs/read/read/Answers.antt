-- `bundle::read::read` meets its contract.
use Rattle.std.specs.Prelude.{Err}
use native.Mathlib.Omega.{arith}
use mathlib.Core.Path.{◌∙◌, ap}
use lib.ListN.{length}
use Rattle.bundle.proofs.Stages.{length_right, length_refused, length_passed, check_refused, check_passed}
use Rattle.bundle.proofs.Refusals.{reads_as}
use Rattle.bundle.proofs.read.read.Goals as goal

pub returns-then-size : goal.returns-then-size
returns-then-size c =
    let bytes = c.args.bundle.now in
    reads_as bytes _ (ap Err c.at.ensures ∙ length_refused bytes c.if-size.true)

pub bad_checks-bad-requires : goal.bad_checks-bad-requires
bad_checks-bad-requires c = omega (arith, length_right (length c.args.bundle.now) c.if-size.false)

pub returns-then-bad-ne0 : goal.returns-then-bad-ne0
returns-then-bad-ne0 c =
    let bytes = c.args.bundle.now in
    reads_as bytes _ (ap Err c.at-then-bad-ne0.ensures ∙ check_refused bytes _ c.bad_checks-bad.ensures (omega (arith, c.if-bad-ne0.true)) ∙ length_passed bytes c.if-size.false)

pub read_first-requires : goal.read_first-requires
read_first-requires c =
    omega (arith, length_right (length c.args.bundle.now) c.if-size.false)

pub returns : goal.returns
returns c =
    let bytes = c.args.bundle.now in
    reads_as bytes _
    (c.read_first.ensures ∙ check_passed bytes _ c.bad_checks-bad.ensures c.if-bad-ne0.false
    ∙ length_passed bytes c.if-size.false)
