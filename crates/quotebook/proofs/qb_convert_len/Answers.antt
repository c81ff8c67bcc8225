use mathlib.Core.Path.{◌∙◌}
use mathlib.Core.List.{[]}
use Rattle.calls.specs.Call.{run_told}
use Rattle.quotebook.proofs.InterfaceLaws.{length-numbered}
use Rattle.quotebook.proofs.qb_convert_len.Goals as goal

pub returns : goal.returns
returns c =
    length-numbered _ _ _ _ ((λ j. record { bytes = c.args.book.now; answer = run_told (c.parts-number.ensures.0 j) (c.parts-number.ensures.1 j) [] }) ∙ c.convert_len.ensures)
