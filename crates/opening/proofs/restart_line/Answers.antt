use Rattle.std.proofs.Common.{arith}
use Rattle.opening.proofs.WriteLaws.{put-restart}
use Rattle.opening.proofs.restart_line.Goals as goal

pub returns : goal.returns
returns c =
    put-restart _ _ _ _ (omega arith) c.put32.ensures c.put64.ensures
