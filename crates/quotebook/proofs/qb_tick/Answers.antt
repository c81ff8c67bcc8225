use mathlib.Core.Path.{ap, ◌∙◌}
use Rattle.calls.specs.Call.{bare}
use Rattle.quotebook.proofs.qb_tick.Goals as goal

pub returns : goal.returns
returns c = ap (λ n. record { bytes = c.next_tick.new.book; answer = bare n }) c.number.ensures ∙ c.next_tick.ensures
