use Rattle.venuerun.proofs.TurnLaws.{Putting}
use Rattle.venuerun.proofs.put_messages.Given as goal

abbrev pub invariant-loop-j : goal.invariant-loop-j
invariant-loop-j l = Putting l.block l.lots l.first l.i l.k l.initial.output l.initial.lengths l.output l.lengths l.p l.at l.j
