-- `bundle_from_lines::from_input` meets its contract.
use native.Mathlib.Omega.{arith}
use Rattle.bundle_from_lines.proofs.Prints.{short_refused, from_parts}
use Rattle.bundle_from_lines.proofs.from_input.Goals as goal

pub returns-then-input-lt-BYTES : goal.returns-then-input-lt-BYTES
returns-then-input-lt-BYTES c room = rw c.at.ensures (short_refused c.args.input.now _ (omega (arith, c.if-input-lt-BYTES.true)))

pub returns : goal.returns
returns c room =
    let input = c.args.input.now in
    from_parts input _ _ _ _ c.byte-entities.ensures.0 c.byte-names.ensures.0 (c.from_head.ensures room)
