use Rattle.std.proofs.Common.{arith}
use Rattle.walk.proofs.CellLaws.{before-size, before-name, before-time}
use Rattle.walk.proofs.is_before.Goals as goal

-- `walk::is_before` meets its contract.

pub returns-then-lots-best : goal.returns-then-lots-best
returns-then-lots-best c = before-size _ _ _ _ _ c.if-lots-best.true

pub returns-then-time-before : goal.returns-then-time-before
returns-then-time-before c =
    before-time _ _ _ _ _ (omega arith) (omega arith) _ _ _ _ _ c.cell_at-at.ensures c.cell_at-to.ensures c.in_quote-level.ensures.0 c.low64-time.ensures c.low64-before.ensures c.if-time-before.true

pub returns : goal.returns
returns c =
    before-name _ _ _ _ _ (omega arith) (omega arith) _ _ _ _ _ c.cell_at-at.ensures c.cell_at-to.ensures c.in_quote-level.ensures.0 c.low64-time.ensures c.low64-before.ensures _ _ c.get32.ensures c.get32-2.ensures c.if-time-before.false
