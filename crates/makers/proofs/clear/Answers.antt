use Prim.Native.Nat.{◌-◌}
use lib.ListN.{replicate}
use borrow.Author.Rules.{rules}
use Rattle.field.proofs.PartLaws.{splice_put}
use Rattle.makers.proofs.clear.Goals as goal

pub returns : goal.returns
returns c = splice_put c.args.s.now c.args.from _ _ (replicate (c.args.to - c.args.from) 0) (search rules) (search rules)
