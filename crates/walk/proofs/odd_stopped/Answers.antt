use Rattle.walk.proofs.KeyLaws.{odd-stopped}
use Rattle.walk.proofs.odd_stopped.Goals as goal

-- `walk::odd_stopped` meets its contract.

pub returns : goal.returns
returns c = odd-stopped _ _ _ _ _ c.odd_all.ensures c.beyond.ensures
