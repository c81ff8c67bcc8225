use Rattle.feedform.proofs.WriteLaws.{front-is}
use borrow.Author.Rules.{rules}
use Rattle.feedform.proofs.put_front.Goals as goal

-- `feedform::put_front` meets its contract.

pub returns : goal.returns
returns c =
    front-is _ _ _ _ _ _ _ _ _ _ _ _ (search rules) (search rules) c.put8.ensures c.put16.ensures c.put32.ensures c.put8-2.ensures c.put8-3.ensures c.fill.ensures
