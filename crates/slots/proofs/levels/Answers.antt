use Rattle.slots.proofs.ReadLaws.{first-key-fits, levels-own, levels-other}
use Rattle.slots.proofs.levels.Goals as goal

pub low32-key-requires : goal.low32-key-requires
low32-key-requires c = first-key-fits c.args.side c.args.letter c.requires.a_le_letter.0 c.requires.a_le_letter.1 _ c.requires.page_len _ c.first_key_at.ensures

pub returns-then-key-level_key : goal.returns-then-key-level_key
returns-then-key-level_key c = levels-own _ _ c.requires.a_le_letter.0 c.requires.a_le_letter.1 _ _ _ c.slot_at.ensures c.in_levels.ensures.0 _ _ c.first_key_at.ensures c.low32-key.ensures _ c.read-stored.ensures _ c.level_key.ensures c.if-key-level_key.true

pub returns : goal.returns
returns c = levels-other _ _ c.requires.a_le_letter.0 c.requires.a_le_letter.1 _ _ _ c.slot_at.ensures c.in_levels.ensures.0 _ _ c.first_key_at.ensures c.low32-key.ensures _ c.read-stored.ensures _ c.level_key.ensures c.if-key-level_key.false
