-- `writer::judge::marks_wrong` meets its contract.
use Rattle.std.proofs.Common.{rules}
use Rattle.base.specs.Byte.{byte_at}
use Rattle.base.proofs.Ranges.{any_ran}
use Rattle.content.specs.Content.{mark_wrong}
use Rattle.writer.proofs.Heads.{marks_many, marks_any}
use Rattle.writer.proofs.judge.marks_wrong.Goals as goal

pub returns-then-marks-ne-ENTITIES : goal.returns-then-marks-ne-ENTITIES
returns-then-marks-ne-ENTITIES c = marks_many _ _ c.if-marks-ne-ENTITIES.true

pub returns : goal.returns
returns c =
    let E = c.args.entities in
    let marks = c.args.marks.now in
    marks_any E marks _ c.if-marks-ne-ENTITIES.false
    (any_ran (λ k. mark_wrong E k (byte_at marks k)) 32 _ _ _ c.any.ensures.ran (cc) (λ i b q k. search rules))
