use Rattle.field.specs.Field.{part}
use Rattle.feedform.proofs.WriteLaws.{consolidated-is}
use Rattle.feedform.proofs.put_consolidated.Goals as goal

-- `feedform::put_consolidated` meets its contract.

pub returns : goal.returns
unfolding part
returns c =
    consolidated-is _ _ c.args.symbol.now c.args.national.now _ _ _ _ _ _ c.requires.1.0 c.requires.1.1 c.open_message.ensures c.fill.ensures c.fill-2.ensures c.put_national.ensures c.put_national-2.ensures c.fill-3.ensures
