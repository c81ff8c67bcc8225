use Rattle.publication.proofs.PublicationLaws.{flags-are}
use Rattle.publication.proofs.flags.Goals as goal

-- `publication::flags` meets its contract.

pub returns : goal.returns
returns c =
    flags-are _ _ _ _ _ _ _ _ c.flag-a.ensures.0 c.flag-b.ensures.0 c.flag-c.ensures.0 c.flag-d.ensures.0
    c.flag-e.ensures.0 c.flag-f.ensures.0
