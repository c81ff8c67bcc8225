use Rattle.walk.proofs.LeadingLaws.{led-none, led-some}
use Rattle.walk.proofs.led.Goals as goal

-- `walk::led` meets its contract.

pub returns-then-leader-eq0 : goal.returns-then-leader-eq0
returns-then-leader-eq0 c = led-none _ _ _ _ _ c.if-leader-eq0.true

pub standing-requires : goal.standing-requires
standing-requires c = record { page_len = c.requires.page_len; a_le_letter = c.requires.in_letters c.if-leader-eq0.false }

pub returns : goal.returns
returns c = led-some _ _ _ _ _ _ c.if-leader-eq0.false c.standing.ensures
