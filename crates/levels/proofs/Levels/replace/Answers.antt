use Rattle.std.proofs.Common.{◌≡◌, ◌<◌, ◌∙◌, length, arith}
use Rattle.std.proofs.lemmas.List.{length-set}
use borrow.Author.Tests.{eq-eqb, ne_eqb}
use Rattle.quote.specs.Quote.{no_level}
use Rattle.levels.proofs.CellLaws.{when_true, when_false, replaced-step, replaced-all}
use Rattle.levels.proofs.Levels.replace.Goals.{then-cell-x, else-cell-x}
use Rattle.levels.proofs.Levels.replace.Goals as goal

pub loop-cell-preserved : goal.loop-cell-preserved
loop-cell-preserved c =
    let long : length c.loop-cell.cell-items ≡ 4 = c.loop-cell.invariant.0 in
    let in_cells : c.loop-cell.cell-index < length c.loop-cell.cell-items = omega arith in
    elim c.if-cell-x.branch [
      | then-cell-x w ↦ rw w.cell-items-is (length-set _ _ _ ∙ long, replaced-step _ _ no_level in_cells _ _ _ c.loop-cell.invariant.1 (when_true _ _ _ (eq-eqb _ _ w.if-cell-x.true)))
      | else-cell-x w ↦ rw w.cell-items-is (length-set _ _ _ ∙ long, replaced-step _ _ no_level in_cells _ _ _ c.loop-cell.invariant.1 (when_false _ _ _ (ne_eqb _ _ w.if-cell-x.false)))
    ]

pub returns : goal.returns
returns c = replaced-all c.loop-cell.cell-items c.loop-cell.cell-index (omega arith) _ _ c.loop-cell.invariant.1
