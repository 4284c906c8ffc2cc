-- `text::number`, which calls itself with the tenth of its number, meets its contract.
use Rattle.text.proofs.Decimal.{decimal_one, decimal_more}
use Rattle.text.proofs.Written.{wrote_more}
use Rattle.text.proofs.+number.Goals as goal

pub returns-then-n-lt10 : goal.returns-then-n-lt10
returns-then-n-lt10 t c = rw (decimal_one c.args.n c.if-n-lt10.true) c.put.ensures

pub returns-else-n-lt10 : goal.returns-else-n-lt10
returns-else-n-lt10 t c =
    rw (decimal_more c.args.n c.if-n-lt10.false) (wrote_more c.number-next.ensures c.put-else-n-lt10.ensures)
