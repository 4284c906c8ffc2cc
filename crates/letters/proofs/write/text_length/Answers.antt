-- `letters::write::text_length` meets its contract.
use native.Mathlib.Omega.{arith}
use mathlib.Core.Path.{refl, ap, sym, ◌∙◌}
use Prim.Native.Nat.{min}
use lib.ListN.{length}
use borrow.Author.Rules.{rules}
use Rattle.std.proofs.lemmas.List.{length_push}
use Rattle.records.specs.Bytes.{credential_in}
use Rattle.spelling.specs.Line.{line_of, most_bytes}
use Rattle.letters.specs.Lines.{counted_bytes}
use Rattle.letters.proofs.Coming.{record_comes}
use Rattle.letters.proofs.Filling.{counted_few, counted_more}
use Rattle.letters.proofs.write.text_length.Goals as goal

pub loop-record-init : goal.loop-record-init
unfolding counted_bytes
loop-record-init c = (omega arith, refl)

pub overflow_add-total : goal.overflow_add-total
overflow_add-total c =
    omega (arith, c.line_length-total.ensures, c.loop-record.invariant.1, counted_few c.args.records.now (length c.loop-record.yielded))

pub loop-record-preserved : goal.loop-record-preserved
loop-record-preserved c =
    let records = c.args.records.now in
    let before = c.loop-record.yielded in
    let turn =
    record_comes records _ before _ (search rules) (search rules) c.loop-record.yielded_by _ _ c.in-Some.record c.in-Some.is c.next.ensures.steps in
    let one = c.line_length-total.ensures ∙ ap (λ bytes. min most_bytes (length (line_of (credential_in bytes)))) turn.0 in (
      omega (arith, turn.1, length_push before c.in-Some.record),
      omega (arith, one, c.loop-record.invariant.1, counted_more records (length before))
          ∙ ap (counted_bytes records) (sym (length_push before c.in-Some.record)),
    )
