use borrow.Author.Rules.{rules}
use Rattle.publication.proofs.PublicationLaws.{named-as, national-name}
use Rattle.entries.specs.Publication.{national_name}
use Rattle.publication.specs.code.Entry.{reason_of}
use Rattle.publication.proofs.national_entry.Goals as goal

-- `publication::national_entry` meets its contract.

pub returns : goal.returns
returns c =
    let a = c.args in
    named-as _ _ (national_name (reason_of a.lead.decided)) _ (national-name _ _ _ a.lead.decided (search rules) c.reason_byte-reason.ensures) c.named.ensures
