-- `lines::word::has` meets its contract.
use borrow.Author.Rules.{rules}
use borrow.Author.Tests.{le-ltb}
use Rattle.rt0.proofs.Bits.{bit_high}
use Rattle.words.specs.Sizes.{most_entities}
use Rattle.lines.proofs.word.has.Goals as goal

pub returns-else-d-lt-ENTITIES : goal.returns-else-d-lt-ENTITIES
returns-else-d-lt-ENTITIES c =
    rw (bit_high most_entities c.args.word c.args.d (search rules) c.if-d-lt-ENTITIES.false) (le-ltb c.args.d most_entities c.if-d-lt-ENTITIES.false)
