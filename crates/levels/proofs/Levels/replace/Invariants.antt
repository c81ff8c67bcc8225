use Rattle.std.proofs.Common.{◌≡◌, ◌++◌, length, take, drop}
use Rattle.levels.specs.code.Cells.{replaced_of}
use Rattle.levels.proofs.Levels.replace.Given as goal

abbrev pub invariant-loop-cell : goal.invariant-loop-cell
invariant-loop-cell l = (length l.cell-items ≡ 4) × (take l.cell-index l.cell-items ++ replaced_of l.x (drop l.cell-index l.cell-items) ≡ replaced_of l.x l.fn.self.cells)
