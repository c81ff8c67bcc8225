use mathlib.Core.Path.{refl}
use Rattle.slots.proofs.ReadLaws.{quote-key-fits}
use Rattle.protection.proofs.StepLaws.{letter-short, letter-closed, letter-keyed}
use Rattle.protection.proofs.quote_yes.Goals as goal

-- `protection::quote_yes` meets its contract.

pub low32-requires : goal.low32-requires
low32-requires c =
    quote-key-fits c.args.side c.args.letter c.requires.a_le_letter.0 c.requires.a_le_letter.1 _ c.requires.page_len _ c.quote_key_at.ensures

pub returns-then-admits : goal.returns-then-admits
returns-then-admits c =
    letter-keyed _ _ _ _ c.requires.a_le_letter.0 c.requires.a_le_letter.1 _ _ c.slot_at-at.ensures c.in_quote.ensures.0 _ c.level_yes.ensures _ _ c.get8-condition.ensures c.admits.ensures
    _ _ _ _ _ c.if-level_yes.true c.if-admits.true c.get.ensures c.quote_key-own.ensures c.quote_key_at.ensures c.low32.ensures refl

pub returns-else-admits : goal.returns-else-admits
returns-else-admits c =
    letter-closed _ _ _ _ c.requires.a_le_letter.0 c.requires.a_le_letter.1 _ _ c.slot_at-at.ensures c.in_quote.ensures.0 _ c.level_yes.ensures _ _ c.get8-condition.ensures c.admits.ensures c.if-admits.false

pub returns-else-level_yes : goal.returns-else-level_yes
returns-else-level_yes c =
    letter-short _ _ _ _ c.requires.a_le_letter.0 c.requires.a_le_letter.1 _ _ c.slot_at-at.ensures c.in_quote.ensures.0 _ c.level_yes.ensures c.if-level_yes.false
