use Rattle.sweep.proofs.LoopLaws.{Going}
use Rattle.sweep.proofs.play_trading.Given as goal

abbrev pub invariant-loop-i : goal.invariant-loop-i
invariant-loop-i l = Going l.page l.side l.lots l.initial.out l.out l.wanted l.last l.i
