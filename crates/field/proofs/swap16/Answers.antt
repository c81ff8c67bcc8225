use Rattle.field.proofs.LowLaws.{swap-two}
use Rattle.field.proofs.swap16.Goals as goal

pub returns : goal.returns
returns c = swap-two _ c.ranges.v.fits
