use mathlib.Core.Path.{ap}
use Rattle.ranking.specs.declared.Candidate.{Candidate}
use Rattle.walk.proofs.copied_lead.Goals as goal

-- `walk::copied_lead` meets its contract.

pub returns : goal.returns
returns c = ap (λ (b : Candidate). record { best = b; decided = c.args.l.decided }) c.copied.ensures
