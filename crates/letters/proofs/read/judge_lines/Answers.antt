-- `letters::read::judge_lines` meets its contract. The invariant: the lines passed are those of valid credentials, at most 240.
use Prim.Native.Nat.{◌<◌}
use native.Mathlib.Omega.{arith}
use mathlib.Core.Path.{◌≡◌, refl}
use borrow.Author.Rules.{rules}
use Rattle.std.proofs.lemmas.List.{length_push}
use Rattle.base.proofs.Flags.{clash_flag}
use Rattle.candidates.proofs.Compared.{own_right}
use Rattle.letters.specs.Lines.{line_count, line_at}
use Rattle.letters.proofs.Coming.{line_comes, lines_end}
use Rattle.letters.proofs.Reading.{passed_none, passed_more, ends_within, text_wrong, text_many, text_whole}
use Rattle.letters.proofs.read.judge_lines.Goals.{In-Some}
use Rattle.letters.proofs.read.judge_lines.Goals as goal

-- the line of a turn is one of the first 240
turn : (c : In-Some) → (c.loop-line.lines < 240) × (c.loop-line.lines < line_count c.args.text.now)
    × (c.in-Some.line.now ≡ line_at c.args.text.now c.loop-line.lines)
turn c =
    let loop = c.loop-line in
    let (low, more, here) =
    line_comes _ c.args.text.now c.into_iter-line-iterator.ensures.into_iter_gives c.take-line-items.ensures.count (search rules) (search rules)
    (λ x b q k. search rules) loop.yielded _ loop.yielded_by loop.lines loop.invariant.0 _ _ c.next.ensures.steps c.in-Some.line c.in-Some.is in
    (omega (arith, low), more, here)

pub loop-line-init : goal.loop-line-init
loop-line-init c = (refl, omega arith, passed_none _ _ _)

pub returns-then-not-right_line : goal.returns-then-not-right_line
returns-then-not-right_line c =
    let args = c.args in
    let loop = c.loop-line in
    let (low, more, here) = turn (goal.at.returns-then-not-right_line c).In-Some in
    rw c.at.ensures (text_wrong args.entities args.names args.text.now loop.at loop.lines loop.invariant.2 _ more here args.size low
    (λ right. clash_flag (c.right_line.ensures.1 ((own_right args.entities args.names c.requires.0 c.requires.1 _).1 right)) c.if-not-right_line.true))

pub overflow_add-at : goal.overflow_add-at
overflow_add-at c =
    let args = c.args in
    let loop = c.loop-line in
    let (_, more, here) = turn (goal.at.overflow_add-at c).In-Some in
    search (rules, ends_within args.entities args.names args.text.now loop.at loop.lines loop.invariant.2 c.in-Some.line.now more here)

pub loop-line-preserved : goal.loop-line-preserved
loop-line-preserved c =
    let args = c.args in
    let loop = c.loop-line in
    let (low, more, here) = turn (goal.at.loop-line-preserved c).In-Some in (
      omega (arith, length_push loop.yielded c.in-Some.line),
      omega (arith, low),
      passed_more args.entities args.names args.text.now loop.at loop.lines loop.invariant.2 _ more here
          ((own_right args.entities args.names c.requires.0 c.requires.1 _).0 (c.right_line.ensures.0 c.if-not-right_line.false)),
    )

pub returns-then-at-text : goal.returns-then-at-text
returns-then-at-text c =
    let args = c.args in
    let loop = c.loop-line in
    let all =
    lines_end _ args.text.now c.into_iter-line-iterator.ensures.into_iter_gives c.take-line-items.ensures.count (search rules) (search rules)
    (λ x b q k. search rules) loop.yielded _ loop.yielded_by loop.lines loop.invariant.0 _ _ c.next.ensures.steps c.in-None.is in
    rw c.at-then-at-text.ensures (text_many args.entities args.names args.text.now loop.at loop.lines loop.invariant.2
    all args.size (omega arith))

pub returns : goal.returns
returns c =
    let args = c.args in
    let loop = c.loop-line in
    text_whole args.entities args.names args.text.now loop.at loop.lines loop.invariant.2 args.size (omega arith)
    loop.invariant.1 c.judge_room.result c.judge_room.ensures
