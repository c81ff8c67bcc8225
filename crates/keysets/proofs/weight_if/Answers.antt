use native.Mathlib.Omega.{arith}
use Rattle.keysets.proofs.SetLaws.{one_shl}
use Rattle.keysets.proofs.weight_if.Goals as goal

pub returns-then-t : goal.returns-then-t
returns-then-t c = rw c.if-t.true (one_shl c.args.i (omega arith))

pub returns : goal.returns
returns c = rw c.if-t.false
