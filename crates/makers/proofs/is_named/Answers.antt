use mathlib.Core.Path.{sym, ◌∙◌}
use Rattle.makers.proofs.CellLaws.{named-is, named-not}
use Rattle.makers.proofs.is_named.Goals as goal

pub returns-then-is_standing : goal.returns-then-is_standing
returns-then-is_standing c =
    named-is _ _ _ _ (sym c.is_standing.ensures ∙ c.if-is_standing.true) (rw c.cell_at.ensures at c.get32.ensures)

pub returns-else-is_standing : goal.returns-else-is_standing
returns-else-is_standing c = c.if-is_standing.false ∙ sym (named-not _ _ _ (sym c.is_standing.ensures ∙ c.if-is_standing.false))
