use mathlib.Core.Path.{sym, ◌∙◌}
use Rattle.oddpart.proofs.PartLaws.{start-cleared, start-read}
use Rattle.oddpart.proofs.start.Goals as goal

pub returns-then-is_cleared : goal.returns-then-is_cleared
returns-then-is_cleared c = start-cleared _ _ _ (sym c.is_cleared.ensures ∙ c.if-is_cleared.true)

pub returns : goal.returns
returns c = start-read _ _ _ _ (sym c.is_cleared.ensures ∙ c.if-is_cleared.false) c.levels.ensures
