use Rattle.std.proofs.Common.{arith}
use Rattle.venuerun.proofs.PackLaws.{fill-joins, fill-closes}
use Rattle.venuerun.proofs.Fill.with.Goals as goal

pub returns-then-used-le-LONGEST : goal.returns-then-used-le-LONGEST
returns-then-used-le-LONGEST c = fill-joins _ _ (omega arith)

pub returns : goal.returns
returns c = fill-closes _ _ (omega arith)
