-- `records::mistake::kind_at` meets its contract.
use mathlib.Core.Path.{◌∙◌}
use Rattle.records.proofs.Ways.{first_way}
use Rattle.records.proofs.mistake.kind_at.Goals as goal

pub returns : goal.returns
returns c =
    c.first_of.ensures
    ∙ rw (
      c.outside.ensures,
      c.outside-2.ensures,
      c.outside-3.ensures,
      c.name_byte-is_name.ensures,
      c.entity_byte-is_entity.ensures,
      c.parts_byte-is_parts.ensures,
    ) (first_way _ _ _ _ _ _)
