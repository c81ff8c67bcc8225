use Rattle.walk.proofs.StepLaws.{ranks-d, ranks-quoted, ranks-unquoted}
use Rattle.walk.proofs.ranks.Goals as goal

-- `walk::ranks` meets its contract.

pub returns-then-letter-eq-D : goal.returns-then-letter-eq-D
returns-then-letter-eq-D c = ranks-d _ _ _ _ _ c.if-letter-eq-D.true c.stands.ensures

pub returns-then-is_quoted : goal.returns-then-is_quoted
returns-then-is_quoted c =
    ranks-quoted _ _ _ _ c.requires.a_le_letter.0 c.requires.a_le_letter.1 c.if-letter-eq-D.false _ c.slot_at.ensures _ c.get8-condition.ensures _ _ c.is_quoted.ensures c.if-is_quoted.true c.admits.ensures

pub returns : goal.returns
returns c =
    ranks-unquoted _ _ _ _ c.requires.a_le_letter.0 c.requires.a_le_letter.1 c.if-letter-eq-D.false _ c.slot_at.ensures _ c.get8-condition.ensures _ c.is_quoted.ensures c.if-is_quoted.false
