use Rattle.quotebook.proofs.InterfaceLaws.{numbers-told}
use Rattle.quotebook.proofs.qb_take_block.Goals as goal

pub returns : goal.returns
returns c = numbers-told _ _ _ _ _ c.take_block-told.ensures
