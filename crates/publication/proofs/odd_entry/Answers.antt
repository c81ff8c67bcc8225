use Rattle.publication.proofs.PublicationLaws.{named-as, odd-name}
use Rattle.entries.specs.Publication.{odd_name}
use Rattle.publication.proofs.odd_entry.Goals as goal

-- `publication::odd_entry` meets its contract.

pub returns : goal.returns
returns c = named-as _ _ odd_name _ (odd-name _) c.named.ensures
