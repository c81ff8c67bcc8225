use mathlib.Core.Path.{◌∙◌}
use Rattle.quotebook.proofs.InterfaceLaws.{numbers-written}
use Rattle.quotebook.proofs.qb_write_block.Goals as goal

pub returns : goal.returns
returns c =
    numbers-written _ _ _ _ _ ((λ j. record { number = c.parts-number.ensures.0 j; length = c.parts-number.ensures.1 j; output = c.write_block.new.output }) ∙ c.write_block.ensures)
