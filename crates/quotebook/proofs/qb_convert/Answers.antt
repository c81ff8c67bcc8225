use mathlib.Core.Path.{◌∙◌}
use Rattle.quotebook.proofs.InterfaceLaws.{run-numbered}
use Rattle.quotebook.proofs.qb_convert.Goals as goal

pub returns : goal.returns
returns c =
    run-numbered _ _ _ _ ((λ j. record { number = c.parts-number.ensures.0 j; length = c.parts-number.ensures.1 j; output = c.convert.new.output }) ∙ c.convert.ensures)
