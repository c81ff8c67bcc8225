use Rattle.sweep.proofs.NextLaws.{maker-read, maker-free}
use Rattle.sweep.proofs.maker_candidate.Goals as goal

-- `sweep::maker_candidate` meets its contract.

pub returns-then-get8-eq82 : goal.returns-then-get8-eq82
returns-then-get8-eq82 c =
    maker-read _ _ _ _ c.cell_at-at.ensures _ c.get8.ensures _ _ c.if-get8-eq82.true c.get32.ensures c.quoted.ensures

pub returns : goal.returns
returns c = maker-free _ _ _ _ c.cell_at-at.ensures _ c.get8.ensures c.if-get8-eq82.false
