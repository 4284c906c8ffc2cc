-- `letters::write::fill_text` meets its contract.
use native.Mathlib.Omega.{arith}
use mathlib.Core.Path.{ap, sym}
use lib.ListN.{length}
use borrow.Author.Rules.{rules}
use Rattle.std.proofs.lemmas.List.{length_push}
use Rattle.records.specs.Bytes.{credential_in}
use Rattle.spelling.specs.Line.{line_of}
use Rattle.spelling.proofs.Texts.{wrote_as}
use Rattle.letters.proofs.Coming.{record_comes}
use Rattle.letters.proofs.Filling.{text_to, putting_none, putting_more}
use Rattle.letters.proofs.write.fill_text.Goals as goal

pub loop-record-init : goal.loop-record-init
loop-record-init c = (omega arith, putting_none _ _)

pub loop-record-preserved : goal.loop-record-preserved
loop-record-preserved c =
    let records = c.args.records.now in
    let before = c.loop-record.yielded in
    let turn =
    record_comes records _ before _ (search rules) (search rules) c.loop-record.yielded_by _ _ c.in-Some.record c.in-Some.is c.next.ensures.steps in (
      omega (arith, turn.1, length_push before c.in-Some.record),
      wrote_as (ap (text_to records) (sym (length_push before c.in-Some.record)))
          (putting_more records c.args.text.now _ _ _ _ (length before) c.loop-record.invariant.1
          (wrote_as (ap (λ bytes. line_of (credential_in bytes)) turn.0) c.put_line-at.ensures)),
    )
