-- `lines_from_bundle::from_records` meets its contract.
use native.Mathlib.Omega.{arith}
use Rattle.bundle.proofs.Accepted.{accepted_contents}
use Rattle.lines_from_bundle.proofs.Prints.{sizes_small, gathered_inside, bundle_lines}
use Rattle.lines_from_bundle.proofs.from_records.Goals as goal

pub overflow_cast-entities : goal.overflow_cast-entities
overflow_cast-entities c = omega (arith, sizes_small _ _ c.requires.0)

pub overflow_cast-names : goal.overflow_cast-names
overflow_cast-names c = omega (arith, sizes_small _ _ c.requires.0)

pub gather-n-requires : goal.gather-n-requires
gather-n-requires c = omega (arith, (accepted_contents _ _ c.requires.0).size)

pub write_front-requires : goal.write_front-requires
write_front-requires c =
    let args = c.args in
    gathered_inside args.bundle.now args.sizes c.requires.0 args.records.now _ _ c.requires.1 c.gather-n.ensures

pub returns : goal.returns
returns c room =
    let args = c.args in
    bundle_lines args.bundle.now args.sizes c.requires.0 args.records.now _ _ c.requires.1 c.gather-n.ensures args.text.now _ _
    room c.write_front.ensures
