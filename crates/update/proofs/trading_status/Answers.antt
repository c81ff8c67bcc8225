use mathlib.Core.Path.{sym, ◌∙◌}
use Rattle.update.proofs.StatusLaws.{status-elsewhere, status-bad, status-taken}
use Rattle.update.proofs.trading_status.Goals as goal

pub returns-then-get8-letter : goal.returns-then-get8-letter
returns-then-get8-letter c = status-elsewhere _ _ c.requires _ _ c.get8.ensures c.if-get8-letter.true

pub returns-then-is_status : goal.returns-then-is_status
returns-then-is_status c =
    status-taken _ _ c.requires _ _ c.get8.ensures c.if-get8-letter.false _ _ (sym c.is_status.ensures ∙ c.if-is_status.true) c.put8.ensures c.renewed.ensures

pub returns : goal.returns
returns c =
    status-bad _ _ c.requires _ _ c.get8.ensures c.if-get8-letter.false (sym c.is_status.ensures ∙ c.if-is_status.false)
