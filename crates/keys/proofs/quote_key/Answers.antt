use Rattle.keys.proofs.KeyLaws.{side-admitted, side-not}
use Rattle.keys.proofs.quote_key.Goals as goal

pub returns-then-admits : goal.returns-then-admits
returns-then-admits c = side-admitted _ _ _ _ _ c.admits.ensures c.if-admits.true c.level_key.ensures

pub returns : goal.returns
returns c = side-not _ _ _ _ c.admits.ensures c.if-admits.false
