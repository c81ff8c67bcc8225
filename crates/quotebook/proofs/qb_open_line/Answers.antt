use mathlib.Core.Path.{ap, ◌∙◌}
use Rattle.calls.specs.Call.{bare}
use Rattle.quotebook.proofs.qb_open_line.Goals as goal

pub returns : goal.returns
returns c = ap (λ n. record { bytes = c.open_line.new.book; answer = bare n }) c.number.ensures ∙ c.open_line.ensures
