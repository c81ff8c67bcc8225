use Rattle.feedform.proofs.WriteLaws.{opened-is}
use borrow.Author.Rules.{rules}
use Rattle.feedform.proofs.open_message.Goals as goal

-- `feedform::open_message` meets its contract.

pub returns : goal.returns
returns c =
    opened-is _ _ _ _ _ _ _ _ _ _ _ (search rules) (search rules) c.requires.1 c.put16.ensures c.put8.ensures c.put8-2.ensures c.put8-3.ensures c.copy.ensures
