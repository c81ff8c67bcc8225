use Rattle.keys.proofs.KeyLaws.{level-none, level-some}
use Rattle.keys.proofs.level_key.Goals as goal

pub returns-then-level-eq0 : goal.returns-then-level-eq0
returns-then-level-eq0 c = level-none _ _ c.if-level-eq0.true

pub returns : goal.returns
returns c = level-some _ _ _ c.if-level-eq0.false c.key.ensures
