use Rattle.protection.proofs.StepLaws.{reaches-bid, reaches-offer}
use Rattle.protection.proofs.reaches.Goals as goal

-- `protection::reaches` meets its contract.

pub returns-in-Bid : goal.returns-in-Bid
returns-in-Bid c = reaches-bid _ _ _ c.in-Bid.is

pub returns-in-Offer : goal.returns-in-Offer
returns-in-Offer c = reaches-offer _ _ _ c.in-Offer.is
