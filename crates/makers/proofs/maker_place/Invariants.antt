use Prim.Native.Nat.{ℕ, ◌-◌, ◌≤◌}
use mathlib.Core.Path.{◌≡◌}
use Rattle.lists.specs.Lists.{first_from}
use Rattle.makers.specs.Makers.{named, cell_of, maker_place}
use Rattle.page.specs.Layout.{maker_count}
use Rattle.makers.proofs.maker_place.Given as goal

abbrev pub invariant-loop-k : goal.invariant-loop-k
invariant-loop-k l = (l.k ≤ maker_count) × (first_from (λ (j : ℕ). named l.name (cell_of l.page j)) l.k (maker_count - l.k) ≡ maker_place l.page l.name)
