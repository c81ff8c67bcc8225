use Rattle.update.proofs.StoreLaws.{empty-is}
use Rattle.update.proofs.empty.Goals as goal

pub returns : goal.returns
returns c =
    empty-is _ _ _ c.requires c.put_none.ensures c.clear.ensures
