use Rattle.walk.proofs.KeyLaws.{row_fits, top-is}
use Rattle.walk.proofs.top_key.Goals as goal

-- `walk::top_key` meets its contract.

pub top-letters-requires : goal.top-letters-requires
top-letters-requires c = row_fits c.args.side _ c.requires _ c.quote_keys.ensures.0

pub returns : goal.returns
returns c = top-is _ _ _ _ _ _ _ c.quote_keys.ensures.0 c.top-letters.ensures c.key.ensures c.higher.ensures
