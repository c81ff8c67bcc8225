use Rattle.walk.proofs.StepLaws.{first-s, first-ranks, first-not}
use Rattle.walk.proofs.odd_first.Goals as goal

-- `walk::odd_first` meets its contract.

pub returns-then-letter-eq-S : goal.returns-then-letter-eq-S
returns-then-letter-eq-S c = first-s _ _ _ _ c.if-letter-eq-S.true

pub returns-then-ranks : goal.returns-then-ranks
returns-then-ranks c = first-ranks _ _ _ _ c.if-letter-eq-S.false _ c.ranks.ensures _ c.if-ranks.true c.first.ensures

pub returns : goal.returns
returns c = first-not _ _ _ _ c.if-letter-eq-S.false _ c.ranks.ensures c.if-ranks.false
