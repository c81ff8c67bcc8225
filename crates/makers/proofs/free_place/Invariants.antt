use Prim.Native.Nat.{ℕ, ◌-◌, ◌≤◌}
use mathlib.Core.Path.{◌≡◌}
use mathlib.Core.Bool.{not}
use Rattle.lists.specs.Lists.{first_from, is_some}
use Rattle.makers.specs.Makers.{cell_of, free_place}
use Rattle.page.specs.Layout.{maker_count}
use Rattle.makers.proofs.free_place.Given as goal

abbrev pub invariant-loop-k : goal.invariant-loop-k
invariant-loop-k l = (l.k ≤ maker_count) × (first_from (λ (j : ℕ). not (is_some (cell_of l.page j))) l.k (maker_count - l.k) ≡ free_place l.page)
