use Rattle.std.proofs.Common.{◌≡◌, ◌<◌, ◌≤◌, ◌∙◌, [], length, arith}
use Rattle.std.proofs.lemmas.List.{length-set}
use Rattle.quote.specs.Quote.{no_level}
use Rattle.levels.proofs.CellLaws.{kept-step, over-step, kept-all, over-all}
use Rattle.levels.proofs.Levels.insert.Goals as goal

pub loop-cell-preserved : goal.loop-cell-preserved
loop-cell-preserved c =
    let long : length c.loop-cell.cell-items ≡ 4 = c.loop-cell.invariant.0 in
    let in_cells : c.loop-cell.cell-index < length c.loop-cell.cell-items = omega arith in (
      length-set _ _ _ ∙ long,
      kept-step _ _ no_level in_cells _ _ _ _ c.ordered-pair.ensures c.loop-cell.invariant.1,
      over-step _ _ no_level in_cells [] _ _ _ c.ordered-pair.ensures _ c.loop-cell.invariant.2,
    )

pub returns : goal.returns
returns c =
    let all : length c.loop-cell.cell-items ≤ c.loop-cell.cell-index = omega arith in
    (kept-all _ _ all _ _ _ c.loop-cell.invariant.1, over-all _ _ all _ _ _ c.loop-cell.invariant.2)
