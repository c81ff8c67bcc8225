use Rattle.sweep.proofs.NextLaws.{letter-d, letter-s, letter-other}
use Rattle.sweep.proofs.letter_candidate.Goals as goal

-- `sweep::letter_candidate` meets its contract.

pub returns-then-letter-eq-D : goal.returns-then-letter-eq-D
returns-then-letter-eq-D c =
    letter-d _ _ (λ i. (c.shared_slice_known-1.given i).fits) _ c.requires.finra_value _ _ c.if-letter-eq-D.true c.as_d.ensures

pub returns-then-letter-eq-S : goal.returns-then-letter-eq-S
returns-then-letter-eq-S c = letter-s _ _ _ c.if-letter-eq-S.true

pub returns : goal.returns
returns c =
    letter-other _ _ (λ i. (c.shared_slice_known-1.given i).fits) _ _ c.if-letter-eq-D.false c.if-letter-eq-S.false c.quoted.ensures
