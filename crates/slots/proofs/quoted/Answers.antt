use Rattle.slots.proofs.ReadLaws.{quote-key-fits, quoted-idle, quoted-own, quoted-other}
use Rattle.slots.proofs.quoted.Goals as goal

pub returns-then-own-eq0 : goal.returns-then-own-eq0
returns-then-own-eq0 c = quoted-idle _ _ c.requires.a_le_letter.0 c.requires.a_le_letter.1 _ _ _ _ _ _ c.slot_at-at.ensures c.get8-condition.ensures c.in_quote.ensures.0 c.get-level.ensures c.quote_key-own.ensures c.if-own-eq0.true

pub low32-key-requires : goal.low32-key-requires
low32-key-requires c = quote-key-fits c.args.side c.args.letter c.requires.a_le_letter.0 c.requires.a_le_letter.1 _ c.requires.page_len _ c.quote_key_at.ensures

pub returns-then-key-own : goal.returns-then-key-own
returns-then-key-own c = quoted-own _ _ c.requires.a_le_letter.0 c.requires.a_le_letter.1 _ _ _ _ _ _ c.slot_at-at.ensures c.get8-condition.ensures c.in_quote.ensures.0 c.get-level.ensures c.quote_key-own.ensures _ _ c.quote_key_at.ensures c.low32-key.ensures c.if-own-eq0.false c.if-key-own.true

pub returns : goal.returns
returns c = quoted-other _ _ c.requires.a_le_letter.0 c.requires.a_le_letter.1 _ _ _ _ _ _ c.slot_at-at.ensures c.get8-condition.ensures c.in_quote.ensures.0 c.get-level.ensures c.quote_key-own.ensures _ _ c.quote_key_at.ensures c.low32-key.ensures c.if-key-own.false
