use Rattle.quote.proofs.OverLaws.{over-is}
use Rattle.quote.proofs.Quote.over.Goals as goal

pub returns : goal.returns
returns c =
    let a = c.args in
    over-is a.standing a.self _ _ c.over.ensures c.over-2.ensures
