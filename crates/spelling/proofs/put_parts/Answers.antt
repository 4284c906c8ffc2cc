-- `spelling::put_parts` meets its contract.
use mathlib.Core.Path.{sym, ◌∙◌}
use Rattle.text.proofs.Written.{wrote_more}
use Rattle.spelling.proofs.Texts.{wrote_as, parts_two, parts_three}
use Rattle.spelling.proofs.put_parts.Goals as goal

pub returns-then-byte-eq3 : goal.returns-then-byte-eq3
returns-then-byte-eq3 c =
    let bytes = c.args.record.now in
    wrote_as (parts_three bytes (sym c.byte.ensures.0 ∙ c.if-byte-eq3.true))
    (wrote_more (wrote_more c.put_role_in-one.ensures c.put_part-two.ensures) c.put_part.ensures)

pub returns-else-byte-eq3 : goal.returns-else-byte-eq3
returns-else-byte-eq3 c =
    let bytes = c.args.record.now in
    wrote_as (parts_two bytes (λ e. c.if-byte-eq3.false (c.byte.ensures.0 ∙ e))) (wrote_more c.put_role_in-one.ensures c.put_part-two.ensures)
