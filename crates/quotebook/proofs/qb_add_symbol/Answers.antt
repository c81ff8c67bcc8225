use mathlib.Core.Path.{ap, ◌∙◌}
use Rattle.calls.specs.Call.{bare}
use Rattle.quotebook.proofs.qb_add_symbol.Goals as goal

pub returns : goal.returns
returns c = ap (λ n. record { bytes = c.add_symbol.new.book; answer = bare n }) c.number.ensures ∙ c.add_symbol.ensures
