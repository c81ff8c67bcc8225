use Rattle.walk.proofs.StepLaws.{standing-d, standing-s, standing-quote}
use Rattle.walk.proofs.standing.Goals as goal

-- `walk::standing` meets its contract.

pub returns-then-letter-eq-D : goal.returns-then-letter-eq-D
returns-then-letter-eq-D c = standing-d _ _ _ _ _ c.if-letter-eq-D.true c.as_d.ensures

pub returns-then-letter-eq-S : goal.returns-then-letter-eq-S
returns-then-letter-eq-S c = standing-s _ _ _ _ c.if-letter-eq-D.false c.if-letter-eq-S.true

pub returns : goal.returns
returns c = standing-quote _ _ _ _ c.if-letter-eq-D.false _ c.if-letter-eq-S.false c.quoted.ensures
