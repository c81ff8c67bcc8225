use Rattle.field.specs.Field.{be_bytes}
use Rattle.entries.specs.Publication.{no_entry, no_entries}
use Rattle.publication.specs.code.Entry.{bytes_of, published_bytes}
use Rattle.publication.proofs.put_none.Goals as goal

pub returns : goal.returns
unfolding no_entry no_entries bytes_of published_bytes be_bytes
returns c = c.put_entries.ensures
