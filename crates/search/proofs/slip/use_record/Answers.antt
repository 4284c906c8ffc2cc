-- `search::slip::use_record` meets its contract.
use native.Mathlib.Omega.{arith}
use Rattle.ledger.proofs.Stating.{place_there, gained_place, gained_word, gained_use}
use Rattle.ledger.proofs.Steps.{extended_same, progress_end}
use Rattle.ledger.proofs.Backing.{backed_more, none_new}
use Rattle.search.proofs.slip.use_record.Goals as goal

pub overflow_sub-turn : goal.overflow_sub-turn
overflow_sub-turn c = omega (arith, c.requires.1.above)

pub bounds-steps-turn : goal.bounds-steps-turn
bounds-steps-turn c =
    let pre = c.requires in
    omega (arith, pre.1.above, pre.1.within, pre.2.enough)

pub offset_bounds-said-at : goal.offset_bounds-said-at
offset_bounds-said-at c = omega (arith, place_there c.requires.0 c.requires.1 c.args.steps.now c.requires.2 c.gain-gained.ensures.0)

pub bounds-said-at : goal.bounds-said-at
bounds-said-at c = omega (arith, place_there c.requires.0 c.requires.1 c.args.steps.now c.requires.2 c.gain-gained.ensures.0)

pub offset_bounds-said-at-2 : goal.offset_bounds-said-at-2
offset_bounds-said-at-2 c = omega (arith, place_there c.requires.0 c.requires.1 c.args.steps.now c.requires.2 c.gain-gained.ensures.0)

pub bounds-said-at-2 : goal.bounds-said-at-2
bounds-said-at-2 c = omega (arith, place_there c.requires.0 c.requires.1 c.args.steps.now c.requires.2 c.gain-gained.ensures.0)

pub returns-then-after-before : goal.returns-then-after-before
returns-then-after-before c =
    let pre = c.requires in
    let same = none_new c.args.said.now c.gain-gained.result.place c.gain-gained.result.word c.if-after-before.true in (
      gained_use pre.0 pre.1 c.args.steps.now pre.2 c.args.said.now c.gain-gained.ensures.0 c.gain-gained.ensures.1,
      progress_end (extended_same pre.0.ledger) pre.5 (rw same pre.4),
    )

pub overflow_mul-given : goal.overflow_mul-given
overflow_mul-given c = omega (arith, place_there c.requires.0 c.requires.1 c.args.steps.now c.requires.2 c.gain-gained.ensures.0)

pub state_members-requires : goal.state_members-requires
state_members-requires c =
    let pre = c.requires in (
      pre.0,
      record {
        number = pre.1;
        first = rw (gained_place c.requires.0 c.requires.1 c.args.steps.now c.requires.2 c.gain-gained.ensures.0);
        inside = omega (arith, place_there c.requires.0 c.requires.1 c.args.steps.now c.requires.2 c.gain-gained.ensures.0);
        word = gained_word c.requires.0 c.requires.1 c.args.steps.now c.requires.2 c.gain-gained.ensures.1;
      },
      pre.5,
    )

pub returns : goal.returns
returns c =
    let pre = c.requires in
    let stated = c.state_members.ensures in (
      gained_use pre.0 pre.1 c.args.steps.now pre.2 c.args.said.now c.gain-gained.ensures.0 c.gain-gained.ensures.1,
      record {
        extended = stated.extended;
        last = stated.last;
        otherwise = λ none. backed_more c.args.said.now c.gain-gained.result.place c.gain-gained.result.word stated.extended
            (omega (arith, place_there c.requires.0 c.requires.1 c.args.steps.now c.requires.2 c.gain-gained.ensures.0, pre.3)) pre.4 (stated.otherwise none);
      },
    )
