use Rattle.std.proofs.Common.{rules}
use Rattle.ranking.proofs.ChoiceLaws.{lead-ahead, lead-loses}
use Rattle.ranking.proofs.lead_by.Goals as goal

-- `ranking::lead_by` meets its contract.

pub returns-then-compared : goal.returns-then-compared
returns-then-compared c = lead-ahead _ _ _ _ (search rules) c.if-compared.true

pub returns : goal.returns
returns c = lead-loses _ _ _ _ _ (search rules) c.if-compared.false c.max.ensures
