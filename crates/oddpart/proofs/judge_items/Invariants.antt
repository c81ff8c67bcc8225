use mathlib.Core.Path.{◌≡◌}
use Prim.Native.Nat.{◌≤◌, ◌-◌}
use Rattle.levels.specs.Levels.{items_from, items_bad}
use Rattle.oddpart.proofs.judge_items.Given as goal

abbrev pub invariant-loop-i : goal.invariant-loop-i
invariant-loop-i l = (l.i ≤ l.n) × (items_bad l.lot (items_from l.items l.i (l.n - l.i)) ≡ items_bad l.lot (items_from l.items 0 l.n))
