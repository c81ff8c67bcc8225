use Rattle.ranking.proofs.ChoiceLaws.{behind-by}
use Rattle.ranking.proofs.is_behind.Goals as goal

-- `ranking::is_behind` meets its contract.

pub returns : goal.returns
returns c = behind-by _ _ _ _ _ c.rank.ensures c.rank-2.ensures
