use Rattle.quote.proofs.QuoteLaws.{quote-read}
use Rattle.quote.proofs.Quote.get.Goals as goal

pub returns : goal.returns
returns c = quote-read _ _ _ _ _ c.get8.ensures c.get.ensures c.get-2.ensures
