use Prim.Native.Nat.{◌-◌, ◌≤◌}
use mathlib.Core.Path.{◌≡◌}
use Rattle.lists.specs.Lists.{all}
use Rattle.venuerules.specs.Rules.{item_good}
use Rattle.venuerules.proofs.are_items_good.Given as goal

abbrev pub invariant-loop-i : goal.invariant-loop-i
invariant-loop-i l = (l.i ≤ l.n) × (all (item_good l.form l.msg) l.i (l.n - l.i) ≡ all (item_good l.form l.msg) 0 l.n)
