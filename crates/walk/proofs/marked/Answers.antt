use Rattle.walk.proofs.MarkLaws.{mark-counts, mark-none}
use Rattle.walk.proofs.marked.Goals as goal

-- `walk::marked` meets its contract.

pub returns-then-d : goal.returns-then-d
returns-then-d c = mark-counts _ c.if-d.true

pub returns : goal.returns
returns c = mark-none _ c.if-d.false
