use Rattle.walk.proofs.CellLaws.{best_none, best-read}
use Rattle.walk.proofs.in_cell.Goals as goal

-- `walk::in_cell` meets its contract.

pub returns-then-best-eq0 : goal.returns-then-best-eq0
returns-then-best-eq0 c = best_none _ _ _ c.if-best-eq0.true

pub returns : goal.returns
returns c =
    best-read _ _ _ c.if-best-eq0.false _ _ _ _ _ c.cell_at-at.ensures c.in_quote.ensures.0 c.get32.ensures c.rank.ensures c.low64.ensures
