use Rattle.walk.proofs.LeadingLaws.{beside_none, beside_first, beside-larger, beside-smaller, beside-earlier, beside-later, beside-alike}
use Rattle.walk.proofs.beside.Goals as goal

-- `walk::beside` meets its contract.

pub returns-then-x-eq0 : goal.returns-then-x-eq0
returns-then-x-eq0 c = beside_none _ _ c.if-x-eq0.true

pub returns-then-best-eq0 : goal.returns-then-best-eq0
returns-then-best-eq0 c = beside_first _ _ c.if-x-eq0.false c.if-best-eq0.true

pub returns-then-best-x : goal.returns-then-best-x
returns-then-best-x c = beside-larger _ _ c.if-x-eq0.false c.if-best-eq0.false _ c.if-best-x.true c.won.ensures

pub returns-then-x-best : goal.returns-then-x-best
returns-then-x-best c = beside-smaller _ _ c.if-x-eq0.false c.if-best-eq0.false _ c.if-best-x.false c.if-x-best.true c.kept.ensures

pub returns-then-x-best-2 : goal.returns-then-x-best-2
returns-then-x-best-2 c = beside-earlier _ _ c.if-x-eq0.false c.if-best-eq0.false _ c.if-best-x.false c.if-x-best.false c.if-x-best-2.true c.won-then-x-best-2.ensures

pub returns-then-best-x-2 : goal.returns-then-best-x-2
returns-then-best-x-2 c = beside-later _ _ c.if-x-eq0.false c.if-best-eq0.false _ c.if-best-x.false c.if-x-best.false c.if-x-best-2.false c.if-best-x-2.true c.kept-then-best-x-2.ensures

pub returns : goal.returns
returns c = beside-alike _ _ c.if-x-eq0.false c.if-best-eq0.false _ c.if-best-x.false c.if-x-best.false c.if-x-best-2.false c.if-best-x-2.false c.kept-2.ensures
