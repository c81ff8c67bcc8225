use Prim.Native.Nat.{◌-◌, ◌≤◌}
use mathlib.Core.Path.{◌≡◌}
use lib.ListN.{length}
use Rattle.makers.specs.Makers.{mark_cells}
use Rattle.page.specs.Layout.{maker_count}
use Rattle.makers.proofs.mark_cells.Given as goal

abbrev pub invariant-loop-k : goal.invariant-loop-k
invariant-loop-k l = (l.k ≤ maker_count) × ((length l.page ≡ length l.initial.page) × (mark_cells l.condition l.k (maker_count - l.k) l.page ≡ mark_cells l.condition 0 maker_count l.initial.page))
