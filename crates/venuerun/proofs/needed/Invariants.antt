use Rattle.venuerun.proofs.NeededLaws.{Needing}
use Rattle.venuerun.proofs.needed.Given as goal

abbrev pub invariant-loop-i : goal.invariant-loop-i
invariant-loop-i l = Needing l.block l.c l.fill l.p l.i
