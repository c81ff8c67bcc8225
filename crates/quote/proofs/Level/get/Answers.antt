use Rattle.quote.proofs.QuoteLaws.{level-read}
use Rattle.quote.proofs.Level.get.Goals as goal

pub returns : goal.returns
returns c = level-read _ _ _ _ _ c.low64.ensures c.low32.ensures c.low64-2.ensures
