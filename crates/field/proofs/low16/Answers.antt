use Prim.Native.Nat.{◌+◌}
use Rattle.field.proofs.LowLaws.{low-join, low-one}
use Rattle.field.proofs.low16.Goals as goal

pub returns : goal.returns
returns c = let a = c in
    cc (low-join 1 1 a.args.s.now a.args.at a.requires, low-one a.args.s.now a.args.at, low-one a.args.s.now (a.args.at + 1))
