use mathlib.Core.Path.{◌≡◌}
use Prim.Native.Nat.{◌≤◌, ◌-◌, ◌+◌}
use Rattle.levels.specs.Levels.{items_from}
use Rattle.oddpart.specs.code.Part.{with_items}
use Rattle.oddpart.proofs.with_part.Given as goal

abbrev pub invariant-loop-i : goal.invariant-loop-i
invariant-loop-i l =
    (l.i ≤ l.n) × (with_items l.side l.time (items_from l.items (l.from + l.i) (l.n - l.i)) l.next ≡ with_items l.side l.time (items_from l.items l.from l.n) l.initial.next)
