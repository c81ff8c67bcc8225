use mathlib.Core.Path.{ap, ◌∙◌}
use Rattle.quotebook.proofs.qb_read.Goals as goal

pub returns : goal.returns
returns c = ap (λ n. record { number = n; publication = c.read.new.publication }) c.number.ensures ∙ c.read.ensures
