use Rattle.std.proofs.Common.{◌-◌}
use Rattle.venuerun.proofs.TurnLaws.{Running}
use Rattle.venuerun.proofs.write_run.Given as goal

abbrev pub invariant-loop-i : goal.invariant-loop-i
invariant-loop-i l = Running l.block l.lots l.initial.output l.c l.output l.sequence l.p l.i l.at

abbrev pub decreases-loop-i : goal.decreases-loop-i
decreases-loop-i l = l.c - l.i
