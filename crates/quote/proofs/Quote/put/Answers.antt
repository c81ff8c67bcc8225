use Rattle.quote.proofs.QuoteLaws.{quote-written}
use Rattle.quote.proofs.Quote.put.Goals as goal

pub returns : goal.returns
returns c =
    let d = c in
    let e = d in
    let f = e in
    quote-written _ _ _ _ _ f.args.self f.put8.ensures e.put.ensures d.put-2.ensures
