use borrow.Author.Rules.{rules}
use Rattle.walk.proofs.LeadingLaws.{members-none, members-some}
use Rattle.walk.proofs.members.Goals as goal

-- `walk::members` meets its contract.

pub returns-then-top-eq0 : goal.returns-then-top-eq0
returns-then-top-eq0 c = (members-none _ _ _ c.if-top-eq0.true, search rules)

pub returns : goal.returns
returns c = (members-some _ _ _ _ c.if-top-eq0.false c.with_d.ensures.0, c.with_d.ensures.1)
