use borrow.Author.Tests.{eq-eqb, ne_eqb}
use Rattle.levels.specs.code.Cells.{standing}
use Rattle.levels.proofs.standing.Goals.{then-cell-eq0-via-then-cell-eq0, then-cell-eq0-via-else-cell-eq0+then-cell-eq0-2}
use Rattle.levels.proofs.standing.Goals as goal

pub returns-then-cell-eq0 : goal.returns-then-cell-eq0
unfolding standing
returns-then-cell-eq0 c =
    elim c.then-cell-eq0.branch [
      | then-cell-eq0-via-then-cell-eq0 w ↦ rw (eq-eqb _ 0 w.if-cell-eq0.true)
      | then-cell-eq0-via-else-cell-eq0+then-cell-eq0-2 w ↦ rw (ne_eqb _ 0 w.if-cell-eq0.false, eq-eqb _ 0 w.if-cell-eq0-2.true)
    ]

pub returns : goal.returns
unfolding standing
returns c = rw (ne_eqb _ 0 c.if-cell-eq0.false, ne_eqb _ 0 c.if-cell-eq0-2.false)
