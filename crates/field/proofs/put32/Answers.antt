use Rattle.field.proofs.LowLaws.{le_bytes-swapped}
use Rattle.field.proofs.put32.Goals as goal

pub returns : goal.returns
returns c = rw (← le_bytes-swapped 4) (cc)
