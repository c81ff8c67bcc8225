use Rattle.restore.proofs.RestoreLaws.{no-head, not-made, then-replayed}
use Rattle.restore.proofs.restore.Goals as goal

pub returns-in-Err : goal.returns-in-Err
returns-in-Err c = no-head _ _ _ _ _ c.in-Err.ensures c.none.ensures

pub returns-in-Ok-make : goal.returns-in-Ok-make
returns-in-Ok-make c = then-replayed _ _ _ c.in-Ok.head c.in-Ok.ensures _ _ _ _ c.in-Ok-make.ensures c.replay.ensures

pub returns-in-Err-make : goal.returns-in-Err-make
returns-in-Err-make c =
    not-made _ _ _ c.in-Ok.head c.in-Ok.ensures _ _ _ c.in-Err-make.ensures c.none-in-Err-make.ensures
