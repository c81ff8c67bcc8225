use mathlib.Core.Path.{◌∙◌}
use Rattle.slots.proofs.ReadLaws.{first-key-fits, side-written}
use Rattle.slots.proofs.put_side.Goals as goal

pub put_low32-requires : goal.put_low32-requires
put_low32-requires c = first-key-fits c.args.side c.args.letter c.requires.a_le_letter.0 c.requires.a_le_letter.1 _ (c.put.auto.page ∙ c.requires.page_len) _ c.first_key_at.ensures

pub returns : goal.returns
returns c = side-written _ _ _ _ _ _ _ _ _ _ c.slot_at.ensures c.in_levels.ensures.0 c.first_key_at.ensures c.level_key-key.ensures c.put.ensures c.put_low32.ensures
