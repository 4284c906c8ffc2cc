-- `writer::judge::judge_record` meets its contract.
use Rattle.std.specs.Prelude.{Some, None}
use Prim.Native.Nat.{◌+◌, ◌*◌}
use mathlib.Core.Path.{refl, sym, subst, ◌∙◌}
use Rattle.base.specs.Cause.{number_for}
use Rattle.records.specs.Mistake.{Mistaken, cause_of}
use Rattle.records.proofs.Mistakes.{some_number, cause_number}
use Rattle.bundle.specs.Layout.{blocks_for}
use Rattle.writer.specs.Rows.{room_rows}
use Rattle.writer.proofs.Tables.{new_refused, new_passed}
use Rattle.writer.proofs.judge.judge_record.Goals as goal

pub returns-in-Some : goal.returns-in-Some
returns-in-Some c =
    let args = c.args in
    let mistake = c.in-Some.mistake in
    let found : Mistaken args.sizes.entities args.sizes.names args.«record».now (Some mistake) =
    subst (Mistaken args.sizes.entities args.sizes.names args.«record».now) c.in-Some.is c.mistake_of.ensures in
    rw (c.at.ensures, c.from.ensures) (new_refused args.sizes.entities args.sizes.names args.sizes.records args.«record».now
    (room_rows (args.sizes.records + 1) args.size) (512 * blocks_for (args.sizes.records + 1)) (number_for (cause_of mistake)) (Some mistake) found
    (cause_number mistake) (λ e. some_number mistake (sym (cause_number mistake) ∙ e)))

pub returns : goal.returns
returns c =
    let args = c.args in
    let found : Mistaken args.sizes.entities args.sizes.names args.«record».now None =
    subst (Mistaken args.sizes.entities args.sizes.names args.«record».now) c.in_default.is c.mistake_of.ensures in
    new_passed args.sizes.entities args.sizes.names args.sizes.records args.«record».now
    (room_rows (args.sizes.records + 1) args.size) (512 * blocks_for (args.sizes.records + 1)) None c.judge_room.result found refl c.judge_room.ensures
