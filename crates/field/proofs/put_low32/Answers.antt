use Rattle.field.proofs.LowLaws.{put-low-join}
use Rattle.field.proofs.put_low32.Goals as goal

pub returns : goal.returns
returns c = rw (← put-low-join 2 2) (cc)
