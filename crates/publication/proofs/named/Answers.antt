use Rattle.publication.proofs.PublicationLaws.{named_none, named_some}
use Rattle.publication.proofs.named.Goals as goal

-- `publication::named` meets its contract.

pub returns-then-c-eq0 : goal.returns-then-c-eq0
returns-then-c-eq0 c = named_none _ _ c.if-c-eq0.true

pub returns : goal.returns
returns c = named_some _ _ c.if-c-eq0.false
