use mathlib.Core.Path.{sym, ◌∙◌}
use Rattle.levels.specs.code.Cells.{standing_behind}
use Rattle.levels.proofs.CellLaws.{when_true, when_false}
use Rattle.levels.proofs.standing_behind.Goals as goal

pub returns-then-is_ahead : goal.returns-then-is_ahead
unfolding standing_behind
returns-then-is_ahead c = c.standing.ensures ∙ when_true _ _ _ (sym c.is_ahead.ensures ∙ c.if-is_ahead.true)

pub returns : goal.returns
unfolding standing_behind
returns c = when_false _ _ _ (sym c.is_ahead.ensures ∙ c.if-is_ahead.false)
