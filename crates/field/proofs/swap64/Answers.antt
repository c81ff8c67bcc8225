use Rattle.field.proofs.LowLaws.{swap-join}
use Rattle.field.proofs.swap64.Goals as goal

pub returns : goal.returns
returns c = cc (swap-join 4 4 c.args.v)
