use mathlib.Core.Path.{refl}
use Rattle.publication.proofs.PublicationLaws.{named-as}
use Rattle.entries.specs.Publication.{finra_name}
use Rattle.publication.proofs.finra_entry.Goals as goal

-- `publication::finra_entry` meets its contract.

pub returns : goal.returns
returns c = named-as _ _ finra_name _ refl c.named.ensures
