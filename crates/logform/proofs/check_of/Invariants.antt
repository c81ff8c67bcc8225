use Prim.Native.Nat.{◌*◌, ◌≤◌}
use mathlib.Core.Path.{◌≡◌}
use lib.ListN.{drop}
use Rattle.logform.specs.Log.{check_from, check_of}
use Rattle.logform.proofs.check_of.Given as goal

abbrev pub invariant-loop-i : goal.invariant-loop-i
invariant-loop-i l = (l.i ≤ l.words) × (check_from l.h (drop (4 * l.i) l.s) ≡ check_of l.s)

abbrev pub invariant-loop-x : goal.invariant-loop-x
invariant-loop-x l = check_from l.h (drop l.x-index l.rest) ≡ check_of l.s
