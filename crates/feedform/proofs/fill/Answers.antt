use lib.ListN.{replicate}
use borrow.Author.Rules.{rules}
use Rattle.field.proofs.PartLaws.{splice_put}
use Rattle.feedform.proofs.fill.Goals as goal

-- `feedform::fill` meets its contract.

pub returns : goal.returns
returns c = splice_put c.args.output.now c.args.at _ _ (replicate c.args.n c.args.byte) (search rules) (search rules)
