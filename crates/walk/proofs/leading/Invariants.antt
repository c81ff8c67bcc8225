use Prim.Native.Nat.{◌<◌, ◌^◌}
use mathlib.Core.Path.{◌≡◌}
use Rattle.keysets.specs.Sets.{key_count, has, fold_set}
use Rattle.walk.specs.code.Walk.{no_shown, show_step}
use Rattle.walk.proofs.leading.Given as goal

abbrev pub invariant-loop-left : goal.invariant-loop-left
invariant-loop-left l =
    (l.left < 2 ^ key_count) × (fold_set (show_step l.page l.side l.finra) (has l.left) 0 key_count l.best ≡ fold_set (show_step l.page l.side l.finra) (has l.set) 0 key_count no_shown)

abbrev pub decreases-loop-left : goal.decreases-loop-left
decreases-loop-left l = l.left
