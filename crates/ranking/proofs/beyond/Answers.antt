use Rattle.std.proofs.Common.{true, false}
use Rattle.ranking.proofs.ChoiceLaws.{beyond-by}
use Rattle.ranking.proofs.beyond.Goals as goal

-- `ranking::beyond` meets its contract.

pub returns-then-is_behind : goal.returns-then-is_behind
returns-then-is_behind c = beyond-by _ _ _ _ c.is_behind.ensures true c.if-is_behind.true

pub returns : goal.returns
returns c = beyond-by _ _ _ _ c.is_behind.ensures false c.if-is_behind.false
