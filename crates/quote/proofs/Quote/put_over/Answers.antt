use Rattle.quote.proofs.OverLaws.{over-written}
use Rattle.quote.proofs.Quote.put_over.Goals as goal

pub returns : goal.returns
returns c =
    let w = c in
    let o = w in
    over-written _ _ _ _ _ _ o.get-standing.ensures o.over-new.ensures w.put.ensures
