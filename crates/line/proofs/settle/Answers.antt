use Rattle.line.proofs.GateLaws.{settle-free, settle-charged}
use Rattle.line.proofs.settle.Goals as goal

pub returns-then-free : goal.returns-then-free
returns-then-free c = settle-free _ _ _ _ _ c.put_line.ensures c.if-free.true

pub returns : goal.returns
returns c =
    settle-charged _ _ _ _ _ c.put_line.ensures _ c.if-free.false c.charge.ensures
