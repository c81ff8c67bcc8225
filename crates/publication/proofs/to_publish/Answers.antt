use Rattle.publication.proofs.PublicationLaws.{six-bytes}
use Rattle.publication.proofs.to_publish.Goals as goal

-- `publication::to_publish` meets its contract.

pub returns : goal.returns
returns c =
    six-bytes _ _ c.national_entry.ensures c.national_entry-2.ensures c.finra_entry.ensures c.finra_entry-2.ensures
    c.odd_entry.ensures c.odd_entry-2.ensures
