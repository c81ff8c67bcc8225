use Rattle.std.proofs.Common.{arith}
use Rattle.opening.proofs.hint_at.Goals as goal

pub returns : goal.returns
returns c = (omega arith, omega arith)
