use Rattle.quote.proofs.QuoteLaws.{level-written}
use Rattle.quote.proofs.Level.put.Goals as goal

pub returns : goal.returns
returns c =
    let d = c in
    let e = d in
    let f = e in
    level-written _ _ _ _ _ f.args.self f.put_low64.ensures e.put_low32.ensures d.put_low64-2.ensures
