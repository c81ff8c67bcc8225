use Rattle.block.proofs.SumLaws.{own-inside, checksum-is}
use Rattle.block.proofs.checksum.Goals as goal

pub overflow_sub-result : goal.overflow_sub-result
overflow_sub-result c = own-inside _ _ _ _ c.total.ensures c.get8.ensures c.get8-2.ensures c.requires.0

pub returns : goal.returns
returns c = checksum-is _ _ _ _ c.total.ensures c.get8.ensures c.get8-2.ensures c.requires.0
