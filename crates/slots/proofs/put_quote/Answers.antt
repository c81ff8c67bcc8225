use Rattle.slots.proofs.ReadLaws.{quote-written}
use Rattle.slots.proofs.put_quote.Goals as goal

pub returns : goal.returns
returns c = quote-written _ _ _ _ _ _ _ _ _ _ _ c.slot_at.ensures c.quote_key_at.ensures c.quote_key_at-2.ensures c.quote_key-bid.ensures c.quote_key-offer.ensures c.put.ensures c.put_low32.ensures c.put_low32-2.ensures
