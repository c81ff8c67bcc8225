use borrow.Author.Tests.{eq-eqb, ne_eqb}
use Rattle.line.proofs.warning.Goals as goal

pub returns-then-gap-eq0 : goal.returns-then-gap-eq0
returns-then-gap-eq0 c = rw (eq-eqb _ _ c.if-gap-eq0.true)

pub returns : goal.returns
returns c = rw (ne_eqb _ _ c.if-gap-eq0.false)
