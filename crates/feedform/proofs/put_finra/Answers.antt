use Rattle.field.specs.Field.{part}
use Rattle.feedform.proofs.WriteLaws.{finra-is}
use Rattle.feedform.proofs.put_finra.Goals as goal

-- `feedform::put_finra` meets its contract.

pub returns : goal.returns
unfolding part
returns c =
    finra-is _ _ c.args.symbol.now c.args.finra.now _ _ _ _ _ _ c.requires.1.0 c.requires.1.1 c.open_message.ensures c.put_finra_side.ensures c.put_finra_side-2.ensures c.fill.ensures c.fill-2.ensures c.fill-3.ensures
