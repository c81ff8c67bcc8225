use Rattle.std.proofs.Common.{◌∙◌, eq-eqb}
use Rattle.sweep.proofs.NextLaws.{follows-none, follows_by}
use Rattle.sweep.proofs.is_next.Goals as goal

-- `sweep::is_next` meets its contract.

pub returns-then-last-eq0 : goal.returns-then-last-eq0
returns-then-last-eq0 c = eq-eqb _ _ c.if-last-eq0.true ∙ follows-none _ _ _ c.if-last-eq0.true

pub returns-else-last-eq0 : goal.returns-else-last-eq0
returns-else-last-eq0 c = follows_by _ _ _ _ c.if-last-eq0.false c.compare.ensures
