-- `checker::line::Accepted::broken` meets its contract.
use mathlib.Core.Path.{◌≡◌, refl, sym, ap, ◌∙◌}
use mathlib.Core.Option.{Option}
use Rattle.rt0.specs.Book.{item}
use Rattle.rt0.specs.Slip.{Fact, stated}
use Rattle.rt0.specs.Bytes.{lines_of}
use Rattle.bundle.specs.Held.{book_in}
use Rattle.checker.specs.Claim.{fact_in}
use Rattle.checker.specs.Premise.{misses, premise_wrong_at}
use Rattle.checker.proofs.Lookups.{premise_useless, premise_judged}
use Rattle.checker.proofs.line.Accepted.broken.Goals as goal

pub returns-then-useless : goal.returns-then-useless
returns-then-useless c =
    premise_useless _ _ _ _ _ _ _ c.args.j _ _ _ c.byte-member.ensures.0 c.byte.ensures.0
    c.credential-its.ensures (sym c.useless.ensures ∙ c.if-useless.true)

pub returns-in-Some : goal.returns-in-Some
returns-in-Some c =
    let judged : (fact found : Option Fact) → fact ≡ fact_in c.wanted.result
    → found ≡ stated (book_in c.args.self.now.bytes.now) (item (lines_of c.args.slip.now c.args.i) c.premise-p.result)
    → misses fact found c.premise-p.result
    ≡ premise_wrong_at (book_in c.args.self.now.bytes.now) c.args.slip.now c.args.i c.args.j =
    λ fact found fact-is found-is. premise_judged (book_in c.args.self.now.bytes.now) _ _ _ _ _ _ c.args.j _ _ _
    c.byte-member.ensures.0 c.byte.ensures.0 c.credential-its.ensures
    _ _ _ _ found fact (sym c.useless.ensures ∙ c.if-useless.false)
    c.premise.ensures c.stated.ensures c.member_of-linked.ensures
    c.premise-p.ensures (fact-is ∙ c.wanted.ensures) found-is in
    let role-is = ap fact_in (sym c.in-Some.is) in
    rw c.same.ensures (judged _ _ role-is c.stated-in-Some.ensures)

pub returns-in-None : goal.returns-in-None
returns-in-None c =
    let judged : (fact found : Option Fact) → fact ≡ fact_in c.wanted.result
    → found ≡ stated (book_in c.args.self.now.bytes.now) (item (lines_of c.args.slip.now c.args.i) c.premise-p.result)
    → misses fact found c.premise-p.result
    ≡ premise_wrong_at (book_in c.args.self.now.bytes.now) c.args.slip.now c.args.i c.args.j =
    λ fact found fact-is found-is. premise_judged (book_in c.args.self.now.bytes.now) _ _ _ _ _ _ c.args.j _ _ _
    c.byte-member.ensures.0 c.byte.ensures.0 c.credential-its.ensures
    _ _ _ _ found fact (sym c.useless.ensures ∙ c.if-useless.false)
    c.premise.ensures c.stated.ensures c.member_of-linked.ensures
    c.premise-p.ensures (fact-is ∙ c.wanted.ensures) found-is in
    judged _ _ (ap fact_in (sym c.in-None.is)) refl
