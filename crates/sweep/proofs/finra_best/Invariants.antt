use Prim.Native.Nat.{◌≤◌, ◌-◌}
use mathlib.Core.Path.{◌≡◌}
use Rattle.ranking.specs.Held.{no_candidate}
use Rattle.ranking.specs.code.Choice.{best_from}
use Rattle.page.specs.Layout.{maker_count}
use Rattle.walk.specs.code.Walk.{asked, maker_at}
use Rattle.sweep.proofs.finra_best.Given as goal

abbrev pub invariant-loop-k : goal.invariant-loop-k
invariant-loop-k l =
    (l.k ≤ maker_count) × (best_from l.side (asked (maker_at l.page) l.side) l.k (maker_count - l.k) l.best ≡ best_from l.side (asked (maker_at l.page) l.side) 0 maker_count no_candidate)
