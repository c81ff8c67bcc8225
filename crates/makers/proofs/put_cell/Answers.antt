use mathlib.Core.Path.{sym, ◌∙◌}
use Rattle.makers.proofs.CellLaws.{put-maker, free-maker}
use Rattle.makers.proofs.put_cell.Goals as goal

pub returns-then-is_empty : goal.returns-then-is_empty
returns-then-is_empty c =
    free-maker _ _ _ _ _ c.cell_at-at.ensures _ (sym c.is_empty.ensures ∙ c.if-is_empty.true) c.clear.ensures

pub returns : goal.returns
returns c =
    put-maker _ _ _ _ _ c.cell_at-at.ensures _ _ (sym c.is_empty.ensures ∙ c.if-is_empty.false) c.put32.ensures c.put.ensures
