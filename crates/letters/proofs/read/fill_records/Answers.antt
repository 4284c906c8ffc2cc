-- `letters::read::fill_records` meets its contract. The invariant: the records of the lines passed are stored.
use mathlib.Core.Path.{ap, sym}
use borrow.Author.Rules.{rules}
use Rattle.std.proofs.lemmas.Iterator.Consumers.{YieldsList-turn, YieldsList-end}
use Rattle.std.proofs.lemmas.List.{length_push}
use Rattle.spelling.proofs.Texts.{wrote_as}
use Rattle.letters.proofs.Coming.{lines_come}
use Rattle.letters.proofs.Filling.{candidates_to, filling_none, filling_more, filling_all}
use Rattle.letters.proofs.read.fill_records.Goals as goal

pub loop-line-init : goal.loop-line-init
loop-line-init c = filling_none c.args.text.now _

pub loop-line-preserved : goal.loop-line-preserved
loop-line-preserved c =
    let text = c.args.text.now in
    let loop = c.loop-line in
    let come = lines_come _ text (search rules) (search rules) (λ x b q k. search rules) in
    let turn = YieldsList-turn come loop.yielded _ loop.yielded_by _ _ c.in-Some.line c.in-Some.is c.next.ensures.steps in
    wrote_as (ap (candidates_to text) (sym (length_push loop.yielded c.in-Some.line)))
    (filling_more text loop.invariant c.in-Some.line.now turn (wrote_as c.candidate.ensures c.word-place.ensures))

pub returns : goal.returns
returns c =
    let text = c.args.text.now in
    let loop = c.loop-line in
    let come = lines_come _ text (search rules) (search rules) (λ x b q k. search rules) in
    let (_, all) = YieldsList-end come loop.yielded _ loop.yielded_by _ _ c.in-None.is c.next.ensures.steps in
    filling_all text loop.invariant all
