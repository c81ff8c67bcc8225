use Prim.Native.Nat.{◌+◌, ◌≤◌}
use mathlib.Core.Path.{sym, ◌∙◌}
use native.Mathlib.Omega.{arith}
use lib.ListN.{length}
use Rattle.makers.proofs.CellLaws.{mark-standing, mark-free}
use Rattle.page.specs.Layout.{cell_length, cell_at}
use Rattle.makers.proofs.mark_cell.Goals as goal

pub returns-then-is_standing : goal.returns-then-is_standing
returns-then-is_standing c =
    let h : cell_at c.args.k + cell_length ≤ length c.args.page.now = omega arith in
    rw c.cell_at.ensures at c.put8.ensures ∙ mark-standing _ _ _ h (sym c.is_standing.ensures ∙ c.if-is_standing.true)

pub returns-else-is_standing : goal.returns-else-is_standing
returns-else-is_standing c =
    let h : cell_at c.args.k + cell_length ≤ length c.args.page.now = omega arith in
    mark-free _ _ _ h (sym c.is_standing.ensures ∙ c.if-is_standing.false)
