use Rattle.std.proofs.Common.{ap, ◌∙◌, eq-eqb, not}
use Rattle.walk.proofs.KeyLaws.{another-self, another-by}
use Rattle.walk.proofs.is_another.Goals as goal

-- `walk::is_another` meets its contract.

pub returns-then-letter-leader : goal.returns-then-letter-leader
returns-then-letter-leader c = another-by _ _ _ _ _ _ _ c.if-letter-leader.true c.standing.ensures c.stands.ensures

pub returns-else-letter-leader : goal.returns-else-letter-leader
returns-else-letter-leader c = ap not (eq-eqb _ _ c.if-letter-leader.false) ∙ another-self _ _ _ _ _ c.if-letter-leader.false
