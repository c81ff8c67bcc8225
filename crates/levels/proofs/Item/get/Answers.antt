use Rattle.levels.specs.Levels.{item_at}
use Rattle.levels.proofs.Item.get.Goals as goal

pub returns : goal.returns
unfolding item_at
returns c = simp (c.get64-price.ensures, c.get32-shares.ensures)
