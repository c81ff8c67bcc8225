use Rattle.ranking.proofs.ChoiceLaws.{lead-priceless, lead-sizeless, lead-alone, lead-compared}
use Rattle.ranking.proofs.lead_with.Goals.{then-next-eq0-via-then-next-eq0, then-next-eq0-via-else-next-eq0+then-next-eq0-2}
use Rattle.ranking.proofs.lead_with.Goals as goal

-- `ranking::lead_with` meets its contract.

pub returns-then-next-eq0 : goal.returns-then-next-eq0
returns-then-next-eq0 c =
    elim c.then-next-eq0.branch [
      | then-next-eq0-via-then-next-eq0 w ↦ lead-priceless _ _ _ w.if-next-eq0.true
      | then-next-eq0-via-else-next-eq0+then-next-eq0-2 w ↦ lead-sizeless _ _ _ w.if-next-eq0-2.true
    ]

pub returns-then-lead-eq0 : goal.returns-then-lead-eq0
returns-then-lead-eq0 c = lead-alone _ _ _ c.if-next-eq0.false c.if-next-eq0-2.false c.if-lead-eq0.true

pub returns : goal.returns
returns c = lead-compared _ _ _ c.if-next-eq0.false c.if-next-eq0-2.false _ _ c.if-lead-eq0.false c.compare.ensures c.lead_by.ensures
