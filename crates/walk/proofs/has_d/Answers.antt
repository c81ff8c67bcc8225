use Rattle.walk.proofs.KeyLaws.{d-has}
use Rattle.walk.proofs.has_d.Goals as goal

-- `walk::has_d` meets its contract.

pub returns : goal.returns
returns c = d-has _
