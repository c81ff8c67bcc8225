use Rattle.walk.proofs.LeadingLaws.{decided-has, decided-other, decided-alone}
use Rattle.walk.proofs.MarkLaws.{other-marked}
use Rattle.walk.proofs.decided.Goals as goal

-- `walk::decided` meets its contract.

pub returns-then-by-ne0 : goal.returns-then-by-ne0
returns-then-by-ne0 c = decided-has _ _ _ _ _ c.if-by-ne0.true

pub returns-then-is_other : goal.returns-then-is_other
returns-then-is_other c = decided-other _ _ _ _ _ c.if-by-ne0.false _ (other-marked _ _ _ _ _ _ c.marked.ensures c.is_other.ensures) c.if-is_other.true

pub returns : goal.returns
returns c = decided-alone _ _ _ _ _ c.if-by-ne0.false _ (other-marked _ _ _ _ _ _ c.marked.ensures c.is_other.ensures) c.if-is_other.false
