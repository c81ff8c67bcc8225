use Rattle.field.proofs.LowLaws.{swap_four}
use Rattle.field.proofs.swap32.Goals as goal

pub returns : goal.returns
returns c = swap_four _ c.ranges.v.fits
