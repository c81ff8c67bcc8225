use Rattle.field.specs.Field.{part}
use Rattle.opening.specs.Opening.{allowance_on}
use Rattle.opening.proofs.is_used_up.Goals as goal

pub returns : goal.returns
unfolding allowance_on part
returns c = c.is_used_up.ensures
