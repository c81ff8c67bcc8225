use Rattle.lists.proofs.Tables.{one_of, none_of}
use mathlib.Core.Path.{sym}
use Rattle.levels.specs.Levels.{clears}
use Rattle.oddpart.proofs.is_cleared.Goals as goal

pub returns-in-66 : goal.returns-in-66
unfolding clears
returns-in-66 c = rw c.in-Bid.is (sym (one_of _ _ c.in-66.is))

pub returns-in_default : goal.returns-in_default
unfolding clears
returns-in_default c = rw c.in-Bid.is (sym (none_of _ _ c.in_default.in_default-own.rest.1))

pub returns-in-83 : goal.returns-in-83
unfolding clears
returns-in-83 c = rw c.in-Offer.is (sym (one_of _ _ c.in-83.is))

pub returns-in_default-matches : goal.returns-in_default-matches
unfolding clears
returns-in_default-matches c = rw c.in-Offer.is (sym (none_of _ _ c.in_default-matches.in_default-matches-own.rest.1))
