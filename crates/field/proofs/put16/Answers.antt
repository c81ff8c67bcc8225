use Rattle.field.proofs.LowLaws.{le_bytes-swapped}
use Rattle.field.proofs.put16.Goals as goal

pub returns : goal.returns
returns c = rw (← le_bytes-swapped 2) (cc)
