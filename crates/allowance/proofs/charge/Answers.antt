use Rattle.allowance.proofs.ByteLaws.{unset-charged, charged-is}
use Rattle.allowance.proofs.charge.Goals as goal

pub returns-then-get8-eq0 : goal.returns-then-get8-eq0
returns-then-get8-eq0 c = unset-charged _ _ _ c.get8.ensures c.if-get8-eq0.true

pub returns : goal.returns
returns c =
    let p = c in
    let g = p in
    charged-is _ _ _ g.get8.ensures g.if-get8-eq0.false _ _ g.get8-count.ensures p.put8.ensures
