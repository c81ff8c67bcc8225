use mathlib.Core.Path.{refl}
use Rattle.entries.specs.Entries.{as_d}
use Rattle.walk.proofs.as_d.Goals as goal

-- `walk::as_d` meets its contract.

pub returns : goal.returns
unfolding as_d
returns c = refl
