use Rattle.protection.proofs.StepLaws.{letter-d, letter-s, letter-other}
use Rattle.protection.proofs.letter_yes.Goals as goal

-- `protection::letter_yes` meets its contract.

pub returns-then-letter-eq-D : goal.returns-then-letter-eq-D
returns-then-letter-eq-D c = letter-d _ _ _ _ _ c.if-letter-eq-D.true c.d_yes.ensures

pub returns-then-letter-eq-S : goal.returns-then-letter-eq-S
returns-then-letter-eq-S c = letter-s _ _ _ _ c.if-letter-eq-S.true

pub returns : goal.returns
returns c =
    letter-other _ _ _ _ _ c.if-letter-eq-D.false c.if-letter-eq-S.false c.quote_yes.ensures
