use mathlib.Core.Path.{◌∙◌}
use Rattle.quotebook.proofs.InterfaceLaws.{head-numbered, head-parts}
use Rattle.quotebook.proofs.qb_log_head.Goals as goal

pub returns : goal.returns
returns c = head-numbered _ _ (head-parts _ _ _ c.parts-number.ensures.0 c.parts-number.ensures.1 ∙ c.read_head.ensures)
