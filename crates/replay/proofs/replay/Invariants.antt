use Prim.Native.Nat.{◌-◌}
use mathlib.Core.Path.{◌≡◌}
use lib.ListN.{length}
use Rattle.replay.proofs.StepLaws.{Replaying}
use Rattle.replay.proofs.replay.Given as goal

abbrev pub invariant-loop-stepped : goal.invariant-loop-stepped
invariant-loop-stepped l = (l.end ≡ length l.initial.output) × Replaying l.initial.book l.log l.from l.initial.output l.book l.output l.at l.written

abbrev pub decreases-loop-stepped : goal.decreases-loop-stepped
decreases-loop-stepped l = length l.log - l.at
