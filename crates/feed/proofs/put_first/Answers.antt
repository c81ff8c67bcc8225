use Rattle.field.specs.Field.{part}
use Rattle.feed.proofs.BlockLaws.{first-is}
use Rattle.feed.proofs.put_first.Goals as goal

-- `feed::put_first` meets its contract.

pub returns : goal.returns
unfolding part
returns c =
    first-is c.args.symbol.now c.args.page.now c.requires.0 _ _ _ _ _ _ c.requires.1.1.1.0 c.requires.1.1.1.1 c.put_front.ensures c.put_consolidated.ensures c.put_letters.ensures c.seal.ensures
