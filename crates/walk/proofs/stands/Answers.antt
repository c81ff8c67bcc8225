use Rattle.std.proofs.Common.{ap, ◌∙◌, eq-eqb, not}
use Rattle.walk.proofs.StepLaws.{stands-not, stands_by}
use Rattle.walk.proofs.stands.Goals as goal

-- `walk::stands` meets its contract.

pub returns-then-c-ne0 : goal.returns-then-c-ne0
returns-then-c-ne0 c = stands_by _ c.if-c-ne0.true

pub returns-else-c-ne0 : goal.returns-else-c-ne0
returns-else-c-ne0 c = ap not (eq-eqb _ _ c.if-c-ne0.false) ∙ stands-not _ c.if-c-ne0.false
