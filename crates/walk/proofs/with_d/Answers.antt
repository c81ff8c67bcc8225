use Rattle.walk.proofs.KeyLaws.{with-taken}
use Rattle.walk.proofs.with_d.Goals as goal

-- `walk::with_d` meets its contract.

pub returns-then-d : goal.returns-then-d
returns-then-d c = (with-taken _ _ _ c.if-d.true c.with_member.ensures.0, c.with_member.ensures.1)
