use Rattle.std.proofs.Common.{rules}
use Rattle.keys.proofs.KeyLaws.{key-bid, key-offer, short-min}
use Rattle.keys.proofs.key.Goals as goal

pub returns-in-Bid : goal.returns-in-Bid
returns-in-Bid c = key-bid _ _ _ c.in-Bid.is (short-min _ _ c.min-short.ensures)

pub returns-in-Offer : goal.returns-in-Offer
returns-in-Offer c = key-offer _ _ _ _ c.in-Offer.is (short-min _ _ c.min-short.ensures) (search rules) c.wrapping_sub_u32.ensures.value
