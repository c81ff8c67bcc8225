use Rattle.work.proofs.RunLaws.{Going}
use Rattle.work.proofs.run.Given as goal

abbrev pub invariant-loop-i : goal.invariant-loop-i
invariant-loop-i l = Going l.letter l.block l.c l.initial.book l.initial.answer l.book l.answer l.tally l.i
