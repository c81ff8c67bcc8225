use mathlib.Core.Path.{refl}
use Rattle.keysets.specs.Sets.{lowest_of}
use Rattle.keysets.proofs.SetLaws.{lowest-lt}
use Rattle.keysets.proofs.lowest.Goals as goal

pub returns : goal.returns
unfolding lowest_of
returns c = (refl, lowest-lt c.args.set c.requires.0 c.requires.1)
