-- `storage::typing::sides_of` meets its contract.
use Rattle.storage.proofs.Codes.{sides_found}
use Rattle.storage.proofs.typing.sides_of.Goals as goal

pub returns : goal.returns
returns c = let args = c.args in sides_found args.sheet.now args.name c.code_of-code.result c.code_of-code.ensures.0
