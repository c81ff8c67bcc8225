use Rattle.field.proofs.LowLaws.{low-join}
use Rattle.field.proofs.low32.Goals as goal

pub returns : goal.returns
returns c = let a = c in
    cc (low-join 2 2 a.args.s.now a.args.at a.requires)
