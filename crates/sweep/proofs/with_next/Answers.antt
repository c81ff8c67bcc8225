use Rattle.sweep.proofs.NextLaws.{next-taken, next-passed}
use Rattle.sweep.proofs.with_next.Goals as goal

-- `sweep::with_next` meets its contract.

pub returns-then-is_next : goal.returns-then-is_next
returns-then-is_next c = next-taken _ _ _ _ _ c.is_next.ensures _ c.if-is_next.true c.choose.ensures

pub returns : goal.returns
returns c = next-passed _ _ _ _ _ c.is_next.ensures c.if-is_next.false
