use mathlib.Core.Path.{ap}
use Rattle.walk.specs.code.Walk.{shown_of}
use Rattle.walk.proofs.show.Goals as goal

-- `walk::show` meets its contract.

pub returns : goal.returns
returns c = ap shown_of c.standing-c.ensures
