use Rattle.std.proofs.Common.{rules}
use Rattle.ranking.proofs.ChoiceLaws.{rank-bid, rank-offer}
use Rattle.ranking.proofs.rank.Goals as goal

-- `ranking::rank` meets its contract.

pub returns-in-Bid : goal.returns-in-Bid
returns-in-Bid c = rank-bid _ _ c.in-Bid.is

pub returns-in-Offer : goal.returns-in-Offer
returns-in-Offer c = rank-offer _ _ _ c.in-Offer.is (search rules) (search rules) c.wrapping_sub_u64.ensures.value
