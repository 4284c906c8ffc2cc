-- `sheet::right` meets its contract.
use Rattle.sheet.proofs.Told.{found_right}
use Rattle.sheet.proofs.right.Goals as goal

pub returns : goal.returns
returns c = found_right _ _ _ _ c.check_differs.ensures c.layout_wrong.ensures
