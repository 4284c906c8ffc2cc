-- `capi::portertrunk_write_lines` meets its contract.
use Rattle.capi.proofs.Written.{packed_answer}
use Rattle.capi.proofs.portertrunk_write_lines.Goals as goal

pub returns : goal.returns
returns c = packed_answer _ _ _ c.pack_wrote.ensures c.write_lines.ensures
