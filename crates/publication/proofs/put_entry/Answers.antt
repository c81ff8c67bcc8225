use Rattle.publication.proofs.PublicationLaws.{put_three}
use Rattle.publication.proofs.put_entry.Goals as goal

-- `publication::put_entry` meets its contract.

pub returns : goal.returns
returns c = rw (← put_three) (cc)
