-- `bundle_from_lines::from_text` meets its contract.
use native.Mathlib.Omega.{arith}
use mathlib.Core.Path.{refl}
use Rattle.base.proofs.Refused.{handed_on}
use Rattle.desk.specs.Answer.{Gives}
use Rattle.bundle_from_lines.specs.Prints.{text_rows, BundleOf}
use Rattle.bundle_from_lines.proofs.Made.{text_refused, text_inside, text_made}
use Rattle.bundle_from_lines.proofs.from_text.Goals as goal

pub returns-in_err-n : goal.returns-in_err-n
returns-in_err-n c room =
    let args = c.args in
    let E = args.entities in
    let R = args.names in
    let marks = args.marks.now in
    let text = args.text.now in
    handed_on (Gives (text_rows E R text) (BundleOf E R marks text) args.bundle.now) c.from_residual.ensures
    (text_refused E R marks text c.requires.0 args.records.now _ c.requires.1 _ _ _ refl c.in_err-n.ensures args.bundle.now)

pub write_front-requires : goal.write_front-requires
write_front-requires c =
    let args = c.args in
    omega (
      arith,
      text_inside args.entities args.names args.marks.now args.text.now c.requires.0 args.records.now _ c.requires.1 _ _ refl c.in_ok-n.ensures,
    )

pub returns : goal.returns
returns c room =
    let args = c.args in
    text_made args.entities args.names args.marks.now args.text.now c.requires.0 args.records.now _ c.requires.1 _ _ refl c.in_ok-n.ensures
    args.bundle.now _ _ room c.write_front.ensures
