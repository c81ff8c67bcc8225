use Rattle.feedform.proofs.WriteLaws.{priced-is}
use Rattle.feedform.proofs.put_priced.Goals as goal

-- `feedform::put_priced` meets its contract.

pub returns : goal.returns
returns c =
    priced-is _ _ c.args.level _ _ c.put64.ensures c.put32.ensures
