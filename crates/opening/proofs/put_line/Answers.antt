use Rattle.opening.proofs.WriteLaws.{put-line}
use Rattle.opening.proofs.put_line.Goals as goal

pub returns : goal.returns
returns c =
    put-line _ _ _ _ _ c.args.x c.put8.ensures c.put32.ensures c.put64.ensures
