use mathlib.Core.Path.{ap, ◌∙◌}
use Rattle.calls.specs.Call.{bare}
use Rattle.quotebook.proofs.qb_end_day.Goals as goal

pub returns : goal.returns
returns c = ap (λ n. record { bytes = c.end_day.new.book; answer = bare n }) c.number.ensures ∙ c.end_day.ensures
