use mathlib.Core.Path.{sym, ◌∙◌}
use Rattle.levels.specs.code.Cells.{ordered_of}
use Rattle.levels.proofs.CellLaws.{when_true, when_false}
use Rattle.levels.proofs.ordered.Goals as goal

pub returns-then-is_ahead : goal.returns-then-is_ahead
unfolding ordered_of
returns-then-is_ahead c = when_true _ _ _ (sym c.is_ahead.ensures ∙ c.if-is_ahead.true)

pub returns : goal.returns
unfolding ordered_of
returns c = when_false _ _ _ (sym c.is_ahead.ensures ∙ c.if-is_ahead.false)
