use Rattle.venue.specs.Venue.{next_at}
use borrow.Author.Rules.{rules}
use Rattle.venue.proofs.next.Goals as goal

pub returns-then-len-lt2 : goal.returns-then-len-lt2
unfolding next_at
returns-then-len-lt2 c = search rules

pub returns-then-len-p-2 : goal.returns-then-len-p-2
unfolding next_at
returns-then-len-p-2 c = search rules

pub returns : goal.returns
unfolding next_at
returns c = search rules
