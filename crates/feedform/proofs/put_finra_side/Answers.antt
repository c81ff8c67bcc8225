use Rattle.field.specs.Field.{part}
use Rattle.feedform.proofs.WriteLaws.{finra-side-is}
use Rattle.feedform.proofs.put_finra_side.Goals as goal

-- `feedform::put_finra_side` meets its contract.

pub returns : goal.returns
unfolding part
returns c =
    finra-side-is _ _ _ _ _ _ c.requires.1 c.fill.ensures c.copy.ensures c.copy-2.ensures
