use Rattle.venuequote.proofs.WriteLaws.{side-is}
use Rattle.venuequote.proofs.put_side.Goals as goal

pub returns : goal.returns
returns c =
    side-is _ _ _ _ _ _ _ _ _ _ _ _ c.price_len.ensures.0 c.shares-shares.ensures c.price.ensures c.put64.ensures c.divide.ensures c.put32.ensures
