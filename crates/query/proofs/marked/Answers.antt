use Rattle.query.proofs.AskedLaws.{mark-bid, mark-offer, mark-bad}
use Rattle.query.proofs.marked.Goals as goal

-- `query::marked` meets its contract.

pub returns-in-66 : goal.returns-in-66
returns-in-66 c = mark-bid _ c.in-66.is

pub returns-in-83 : goal.returns-in-83
returns-in-83 c = mark-offer _ c.in-83.is

pub returns-in_default : goal.returns-in_default
returns-in_default c = let r = c.in_default.in_default-own.rest in mark-bad _ r.0.1 r.1
