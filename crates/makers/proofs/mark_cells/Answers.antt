use mathlib.Core.Path.{refl, ◌∙◌}
use native.Mathlib.Nat.{sub-zero}
use Rattle.makers.proofs.CellLaws.{mark-again, mark-end}
use borrow.Author.Rules.{rules}
use Rattle.makers.proofs.mark_cells.Goals as goal

pub loop-k-init : goal.loop-k-init
loop-k-init c = (search rules, (refl, simp sub-zero))

pub loop-k-preserved : goal.loop-k-preserved
loop-k-preserved c =
    (search rules, (c.mark_cell.auto.page ∙ c.loop-k.invariant.1.0, mark-again _ _ _ _ _ c.loop-k-test.true c.loop-k.invariant.1.1 c.mark_cell.ensures))

pub returns : goal.returns
returns c = mark-end _ _ _ _ c.loop-k-test.false c.loop-k.invariant.1.1
