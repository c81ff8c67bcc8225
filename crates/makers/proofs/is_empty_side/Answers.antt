use borrow.Author.Tests.{eq-eqb, ne_eqb}
use Rattle.makers.proofs.is_empty_side.Goals as goal

pub returns-then-l-eq0 : goal.returns-then-l-eq0
returns-then-l-eq0 c = rw (eq-eqb _ _ c.if-l-eq0.true)

pub returns-else-l-eq0 : goal.returns-else-l-eq0
returns-else-l-eq0 c = rw (ne_eqb _ _ c.if-l-eq0.false)
