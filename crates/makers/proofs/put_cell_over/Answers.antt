use Rattle.makers.proofs.CellLaws.{over-maker}
use Rattle.makers.proofs.put_cell_over.Goals as goal

pub returns : goal.returns
returns c =
    over-maker _ _ _ _ _ c.cell_at.ensures _ _ _ c.get-standing.ensures c.over.ensures c.put_cell.ensures
