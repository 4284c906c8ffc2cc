-- `letters::write::write_lines` meets its contract.
use mathlib.Core.Path.{refl}
use Rattle.letters.proofs.Kept.{write_filled, write_handed}
use Rattle.base.proofs.Refused.{handed_on}
use Rattle.letters.specs.Promise.{Writes}
use Rattle.letters.proofs.write.write_lines.Goals as goal

pub returns : goal.returns
returns c =
    let args = c.args in
    write_filled args.entities args.names args.records.now args.text.now _ c.in_ok-length.ensures _ refl _ _ c.fill_text-end.ensures

pub returns-in_err-length : goal.returns-in_err-length
returns-in_err-length c =
    let args = c.args in
    handed_on (λ r. Writes args.entities args.names args.records.now args.text.now r args.text.now) c.from_residual.ensures
    (write_handed args.entities args.names args.records.now args.text.now _ c.in_err-length.ensures _ _ refl)
