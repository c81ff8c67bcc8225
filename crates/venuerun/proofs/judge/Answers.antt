use Rattle.std.proofs.Common.{refl, arith}
use Rattle.numbers.proofs.RefusalLaws.{never-zero, passed_up}
use Rattle.venuerun.proofs.NeededLaws.{judge-refused, judge-short, judge-done}
use Rattle.venuerun.proofs.judge.Goals as goal

pub returns-in_err-len : goal.returns-in_err-len
returns-in_err-len c =
    rw (passed_up c.from_residual.result _ c.from_residual.ensures.1) (judge-refused _ _ _ _ c.in_err-len.ensures.0 c.in_err-len.ensures.1 (never-zero _))

pub returns-then-room-len : goal.returns-then-room-len
returns-then-room-len c =
    judge-short _ _ _ _ c.in_ok-len.ensures.0 c.in_ok-len.ensures.1 refl (omega (arith, c.if-room-len.true))

pub returns : goal.returns
returns c =
    judge-done _ _ _ _ c.in_ok-len.ensures.0 c.in_ok-len.ensures.1 refl (omega (arith, c.if-room-len.false))
