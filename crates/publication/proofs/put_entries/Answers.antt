use Rattle.publication.proofs.PublicationLaws.{put_six}
use Rattle.publication.proofs.put_entries.Goals as goal

-- `publication::put_entries` meets its contract.

pub returns : goal.returns
returns c =
    put_six _ _ _ _ _ _ _ _ c.put_entry.ensures c.put_entry-2.ensures c.put_entry-3.ensures c.put_entry-4.ensures c.put_entry-5.ensures c.put_entry-6.ensures
