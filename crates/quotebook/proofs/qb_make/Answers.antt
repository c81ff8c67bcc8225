use mathlib.Core.Path.{ap, ◌∙◌}
use Rattle.calls.specs.Call.{bare}
use Rattle.quotebook.proofs.qb_make.Goals as goal

pub returns : goal.returns
returns c = ap (λ n. record { bytes = c.make.new.book; answer = bare n }) c.number.ensures ∙ c.make.ensures
