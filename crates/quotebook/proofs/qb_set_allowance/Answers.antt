use mathlib.Core.Path.{ap, ◌∙◌}
use Rattle.calls.specs.Call.{bare}
use Rattle.quotebook.proofs.qb_set_allowance.Goals as goal

pub returns : goal.returns
returns c = ap (λ n. record { bytes = c.set_allowance.new.book; answer = bare n }) c.number.ensures ∙ c.set_allowance.ensures
