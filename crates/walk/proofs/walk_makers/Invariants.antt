use Prim.Native.Nat.{◌≤◌, ◌-◌}
use mathlib.Core.Path.{◌≡◌}
use Rattle.walk.specs.code.Walk.{asked, maker_at}
use Rattle.walk.specs.code.Cells.{Kept}
use Rattle.walk.proofs.CellLaws.{held_sides}
use Rattle.ranking.specs.Held.{no_sides}
use Rattle.ranking.specs.code.Choice.{sides_from}
use Rattle.page.specs.Layout.{maker_count}
use Rattle.walk.proofs.walk_makers.Given as goal

abbrev pub invariant-loop-k : goal.invariant-loop-k
invariant-loop-k l =
    (l.k ≤ maker_count) × (Kept l.bid) × (Kept l.offer) × (sides_from (asked (maker_at l.page)) l.k (maker_count - l.k) (held_sides l.page l.bid l.offer) ≡ sides_from (asked (maker_at l.page)) 0 maker_count no_sides)
