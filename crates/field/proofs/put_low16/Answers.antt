use Rattle.field.proofs.LowLaws.{put-low-join, le_bytes-one}
use Rattle.field.proofs.put_low16.Goals as goal

pub returns : goal.returns
returns c = rw (← put-low-join 1 1) (simp le_bytes-one (cc))
