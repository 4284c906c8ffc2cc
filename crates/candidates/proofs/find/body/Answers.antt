-- `candidates::find::body` meets its contract.
use Rattle.candidates.proofs.Found.{body_entity, body_role, body_parts, body_link}
use mathlib.Core.Path.{sym, ◌∙◌}
use Rattle.candidates.proofs.find.body.Goals as goal

pub returns-then-byte-eq10 : goal.returns-then-byte-eq10
returns-then-byte-eq10 c =
    let args = c.args in
    body_entity args.line.now args.a args.r args.at _ _ c.number_at-b.ensures c.after-dot.ensures.0
    (sym c.byte.ensures.0 ∙ c.if-byte-eq10.true)

pub returns-then-byte-eq10-2 : goal.returns-then-byte-eq10-2
returns-then-byte-eq10-2 c =
    let args = c.args in
    body_role args.line.now args.a args.r args.at _ _ c.number_at-b.ensures c.after-dot.ensures.0
    (λ e. c.if-byte-eq10.false (c.byte.ensures.0 ∙ e)) _ _ c.number_at-s.ensures c.after-end.ensures.0
    (sym c.byte-2.ensures.0 ∙ c.if-byte-eq10-2.true)

pub returns-then-has : goal.returns-then-has
returns-then-has c =
    let args = c.args in
    c.parts.ensures
    ∙ body_parts args.line.now args.a args.r args.at _ _ c.number_at-b.ensures c.after-dot.ensures.0
    (λ e. c.if-byte-eq10.false (c.byte.ensures.0 ∙ e)) _ _ c.number_at-s.ensures c.after-end.ensures.0
    (λ e. c.if-byte-eq10-2.false (c.byte-2.ensures.0 ∙ e)) _ c.has.ensures c.if-has.true

pub returns : goal.returns
returns c =
    let args = c.args in
    body_link args.line.now args.a args.r args.at _ _ c.number_at-b.ensures c.after-dot.ensures.0
    (λ e. c.if-byte-eq10.false (c.byte.ensures.0 ∙ e)) _ _ c.number_at-s.ensures c.after-end.ensures.0
    (λ e. c.if-byte-eq10-2.false (c.byte-2.ensures.0 ∙ e)) _ c.has.ensures c.if-has.false _ c.number_at.ensures
