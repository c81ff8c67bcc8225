use Rattle.slots.proofs.ReadLaws.{quote-key-fits, agreed-own, agreed-not}
use Rattle.slots.proofs.agreed.Goals as goal

pub low32-key-requires : goal.low32-key-requires
low32-key-requires c = quote-key-fits c.args.side c.args.letter c.requires.a_le_letter.0 c.requires.a_le_letter.1 _ c.requires.page_len _ c.quote_key_at.ensures

pub returns-then-key-quote_key : goal.returns-then-key-quote_key
returns-then-key-quote_key c = agreed-own _ _ _ _ c.quote_key_at.ensures _ c.low32-key.ensures _ _ _ c.quote_key.ensures c.if-key-quote_key.true

pub returns : goal.returns
returns c = agreed-not _ _ _ _ c.quote_key_at.ensures _ c.low32-key.ensures _ _ _ c.quote_key.ensures c.if-key-quote_key.false
