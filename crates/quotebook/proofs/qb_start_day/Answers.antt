use mathlib.Core.Path.{ap, ◌∙◌}
use Rattle.calls.specs.Call.{bare}
use Rattle.quotebook.proofs.qb_start_day.Goals as goal

pub returns : goal.returns
returns c = ap (λ n. record { bytes = c.start_day.new.book; answer = bare n }) c.number.ensures ∙ c.start_day.ensures
