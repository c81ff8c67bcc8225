use Rattle.std.proofs.Common.{true, false}
use Rattle.ranking.proofs.ChoiceLaws.{choose-priceless, choose-sizeless, choose-by}
use Rattle.ranking.proofs.choose.Goals.{then-x-eq0-via-then-x-eq0, then-x-eq0-via-else-x-eq0+then-x-eq0-2}
use Rattle.ranking.proofs.choose.Goals as goal

-- `ranking::choose` meets its contract.

pub returns-then-x-eq0 : goal.returns-then-x-eq0
returns-then-x-eq0 c =
    elim c.then-x-eq0.branch [
      | then-x-eq0-via-then-x-eq0 w ↦ choose-priceless _ _ _ w.if-x-eq0.true
      | then-x-eq0-via-else-x-eq0+then-x-eq0-2 w ↦ choose-sizeless _ _ _ w.if-x-eq0-2.true
    ]

pub returns-then-compare : goal.returns-then-compare
returns-then-compare c = choose-by _ _ _ _ c.if-x-eq0.false c.if-x-eq0-2.false c.compare.ensures true c.if-compare.true

pub returns : goal.returns
returns c = choose-by _ _ _ _ c.if-x-eq0.false c.if-x-eq0-2.false c.compare.ensures false c.if-compare.false
