-- `bundle_from_lines::from_head` meets its contract.
use native.Mathlib.Omega.{arith}
use mathlib.Core.Path.{refl}
use Rattle.base.proofs.Refused.{handed_on}
use Rattle.desk.specs.Answer.{Gives}
use Rattle.bundle_from_lines.specs.Prints.{head_rows, BundleOf}
use Rattle.bundle_from_lines.proofs.Made.{head_refused, head_right, head_passed}
use Rattle.bundle_from_lines.proofs.from_head.Goals as goal

pub returns-in_err-write : goal.returns-in_err-write
returns-in_err-write c room =
    let args = c.args in
    let E = args.entities in
    let R = args.names in
    let marks = args.marks.now in
    let text = args.text.now in
    let after = c.write.new.bundle in
    handed_on (Gives (head_rows E R marks text) (BundleOf E R marks text) after) c.from_residual.ensures
    (head_refused E R marks args.bundle.now after (omega (arith, room)) _ _ _ refl c.in_err-write.ensures text after)

pub from_text-requires : goal.from_text-requires
from_text-requires c =
    let args = c.args in
    (head_right args.entities args.names args.marks.now args.bundle.now _ _ _ refl c.in_ok-write.ensures, c.requires)

pub returns : goal.returns
returns c room =
    let args = c.args in
    let right = head_right args.entities args.names args.marks.now args.bundle.now _ _ _ refl c.in_ok-write.ensures in
    head_passed args.entities args.names args.marks.now args.text.now _ _ right (c.from_text.ensures (omega (arith, room, c.write.auto.bundle)))
