use Rattle.venue.specs.Venue.{size_good}
use borrow.Author.Rules.{rules}
use Rattle.venue.proofs.is_size_good.Goals as goal

pub returns-then-from-len : goal.returns-then-from-len
unfolding size_good
returns-then-from-len c = search rules

pub returns-else-from-len : goal.returns-else-from-len
unfolding size_good
returns-else-from-len c = search rules
