-- `spelling::put_body` meets its contract.
use Rattle.spelling.proofs.Texts.{wrote_as, entity_as, body_entity, body_role, body_link, body_parts}
use mathlib.Core.Path.{sym, ◌∙◌}
use Rattle.spelling.proofs.put_body.Goals as goal

pub returns-in-1 : goal.returns-in-1
returns-in-1 c =
    let bytes = c.args.record.now in
    wrote_as (entity_as c.number_in.ensures ∙ body_entity bytes (sym c.byte.ensures.0 ∙ c.in-1.is))
    c.put_entity.ensures

pub returns-in-2 : goal.returns-in-2
returns-in-2 c =
    let bytes = c.args.record.now in
    wrote_as (body_role bytes (sym c.byte.ensures.0 ∙ c.in-2.is)) c.put_role_in.ensures

pub returns-in-3 : goal.returns-in-3
returns-in-3 c =
    let bytes = c.args.record.now in
    wrote_as (body_link bytes (sym c.byte.ensures.0 ∙ c.in-3.is)) c.put_link.ensures

pub returns-in_default : goal.returns-in_default
returns-in_default c =
    let bytes = c.args.record.now in
    wrote_as
    (body_parts bytes (λ e. c.in_default.in_default-own.rest.0.0.1 (c.byte.ensures.0 ∙ e)) (λ e. c.in_default.in_default-own.rest.0.1 (c.byte.ensures.0 ∙ e))
    (λ e. c.in_default.in_default-own.rest.1 (c.byte.ensures.0 ∙ e)))
    c.put_parts.ensures
