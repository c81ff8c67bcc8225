use Rattle.venue.specs.Venue.{venue_number}
use borrow.Author.Rules.{rules}
use Rattle.venue.proofs.judge.Goals as goal

pub returns-then-not-is_block_good : goal.returns-then-not-is_block_good
unfolding venue_number
returns-then-not-is_block_good c = search rules

pub returns-then-not-are_placed : goal.returns-then-not-are_placed
unfolding venue_number
returns-then-not-are_placed c = search rules

pub returns : goal.returns
unfolding venue_number
returns c = search rules
