use Rattle.slots.proofs.ReadLaws.{quote-read}
use Rattle.slots.proofs.quote.Goals as goal

pub returns : goal.returns
returns c = quote-read _ _ c.requires.a_le_letter.0 c.requires.a_le_letter.1 _ _ _ _ c.slot_at.ensures c.get-stored.ensures c.agreed-bid.ensures c.agreed-offer.ensures
