use Rattle.slots.proofs.ReadLaws.{first-key-fits, first-idle, first-own, first-other}
use Rattle.slots.proofs.first.Goals as goal

pub returns-then-own-eq0 : goal.returns-then-own-eq0
returns-then-own-eq0 c = first-idle _ _ c.requires.a_le_letter.0 c.requires.a_le_letter.1 _ _ _ c.slot_at.ensures c.in_levels.ensures.0 _ c.get-level.ensures _ c.level_key-own.ensures c.if-own-eq0.true

pub low32-key-requires : goal.low32-key-requires
low32-key-requires c = first-key-fits c.args.side c.args.letter c.requires.a_le_letter.0 c.requires.a_le_letter.1 _ c.requires.page_len _ c.first_key_at.ensures

pub returns-then-key-own : goal.returns-then-key-own
returns-then-key-own c = first-own _ _ c.requires.a_le_letter.0 c.requires.a_le_letter.1 _ _ _ c.slot_at.ensures c.in_levels.ensures.0 _ c.get-level.ensures _ c.level_key-own.ensures _ _ c.first_key_at.ensures c.low32-key.ensures c.if-own-eq0.false c.if-key-own.true

pub returns : goal.returns
returns c = first-other _ _ c.requires.a_le_letter.0 c.requires.a_le_letter.1 _ _ _ c.slot_at.ensures c.in_levels.ensures.0 _ c.get-level.ensures _ c.level_key-own.ensures _ _ c.first_key_at.ensures c.low32-key.ensures c.if-key-own.false
