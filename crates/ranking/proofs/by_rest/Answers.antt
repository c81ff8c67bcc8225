use Rattle.std.proofs.Common.{◌∙◌, arith}
use Rattle.ranking.proofs.ChoiceLaws.{rest-larger, rest-smaller, rest-earlier, rest-later, rest-name}
use Rattle.ranking.proofs.by_rest.Goals as goal

-- `ranking::by_rest` meets its contract.

pub returns-then-best-x : goal.returns-then-best-x
returns-then-best-x c = c.ahead_by.ensures ∙ rest-larger _ _ c.if-best-x.true

pub returns-then-x-best : goal.returns-then-x-best
returns-then-x-best c = c.behind_by.ensures ∙ rest-smaller _ _ c.if-x-best.true

pub returns-then-x-best-2 : goal.returns-then-x-best-2
returns-then-x-best-2 c = c.ahead_by-then-x-best-2.ensures ∙ rest-earlier _ _ (omega arith) (omega arith) c.if-x-best-2.true

pub returns-then-best-x-2 : goal.returns-then-best-x-2
returns-then-best-x-2 c = c.behind_by-then-best-x-2.ensures ∙ rest-later _ _ (omega arith) (omega arith) c.if-best-x-2.true

pub returns : goal.returns
returns c = rest-name _ _ (omega arith) (omega arith) (omega arith) (omega arith)
