use native.Mathlib.Omega.{arith}
use Rattle.venuequote.proofs.WriteLaws.{len-quote, len-other}
use Rattle.venuequote.proofs.converted_len.Goals as goal

pub returns-in_default : goal.returns-in_default
returns-in_default c = (len-other _ _ c.layout_of.ensures c.in_default.is, omega arith)

pub returns : goal.returns
returns c = (len-quote _ _ c.layout_of.ensures _ _ c.in-Some.is c.our_len.ensures.0, c.our_len.ensures.1)
