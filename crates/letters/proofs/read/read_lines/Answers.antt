-- `letters::read::read_lines` meets its contract.
use mathlib.Core.Path.{refl}
use Rattle.letters.proofs.Kept.{read_filled, read_handed}
use Rattle.base.proofs.Refused.{handed_on}
use Rattle.letters.specs.Promise.{Reads}
use Rattle.letters.proofs.read.read_lines.Goals as goal

pub returns : goal.returns
returns c =
    let args = c.args in
    read_filled args.entities args.names args.text.now args.records.now _ c.in_ok-length.ensures _ refl _ _ c.fill_records-end.ensures

pub returns-in_err-length : goal.returns-in_err-length
returns-in_err-length c =
    let args = c.args in
    handed_on (λ r. Reads args.entities args.names args.text.now args.records.now r args.records.now) c.from_residual.ensures
    (read_handed args.entities args.names args.text.now args.records.now _ c.in_err-length.ensures _ _ refl)
