-- `checker::line::Accepted::credential` meets its contract: record number n of an accepted bundle is the credential of that number.
use mathlib.Core.Path.{sym, ◌∙◌}
use Rattle.checker.proofs.Lookups.{credential_outside, credential_inside}
use Rattle.checker.proofs.line.Accepted.credential.Goals as goal

pub returns-then-outside : goal.returns-then-outside
returns-then-outside c =
    credential_outside c.args.self.now.bytes.now _ c.args.self.now.accepts c.args.number (sym c.outside.ensures ∙ c.if-outside.true)

pub returns : goal.returns
returns c =
    credential_inside c.args.self.now.bytes.now _ c.args.self.now.accepts _ _ (sym c.outside.ensures ∙ c.if-outside.false)
    c.record_at.ensures
