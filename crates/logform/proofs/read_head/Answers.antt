use native.Mathlib.Omega.{arith}
use Rattle.logform.proofs.LogLaws.{head-long}
use Rattle.logform.proofs.read_head.Goals as goal

pub get8-requires : goal.get8-requires
get8-requires c = omega (arith, head-long _ _ c.is_head.ensures c.if-not-is_head.false)

pub get16-requires : goal.get16-requires
get16-requires c = omega (arith, head-long _ _ c.is_head.ensures c.if-not-is_head.false)
