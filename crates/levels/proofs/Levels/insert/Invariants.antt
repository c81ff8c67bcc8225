use Rattle.std.proofs.Common.{◌≡◌, ◌++◌, length, take, drop}
use Rattle.levels.specs.code.Cells.{kept_of, over_of}
use Rattle.levels.proofs.Levels.insert.Given as goal

abbrev pub invariant-loop-cell : goal.invariant-loop-cell
invariant-loop-cell l =
    (length l.cell-items ≡ 4)
    × (take l.cell-index l.cell-items ++ kept_of l.side l.over (drop l.cell-index l.cell-items) ≡ kept_of l.side l.fn.x l.fn.self.cells)
    × (over_of l.side l.over (drop l.cell-index l.cell-items) ≡ over_of l.side l.fn.x l.fn.self.cells)
