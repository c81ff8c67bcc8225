use mathlib.Core.Path.{sym, ◌∙◌}
use Rattle.makers.proofs.CellLaws.{standing-is}
use Rattle.makers.proofs.is_standing.Goals as goal

pub returns : goal.returns
returns c = c.stands.ensures ∙ sym (standing-is _ _ _ (rw (← c.cell_at.ensures) c.get8.ensures))
