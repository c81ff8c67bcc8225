use Rattle.std.proofs.Common.{◌∙◌, arith}
use Rattle.ranking.proofs.ChoiceLaws.{rank-less, rank-greater, rank-same}
use Rattle.ranking.proofs.compare.Goals as goal

-- `ranking::compare` meets its contract.

pub returns-then-own-other : goal.returns-then-own-other
returns-then-own-other c = c.behind_by.ensures ∙ rank-less _ _ _ _ _ c.rank-own.ensures c.rank-other.ensures c.if-own-other.true

pub returns-then-other-own : goal.returns-then-other-own
returns-then-other-own c = c.ahead_by.ensures ∙ rank-greater _ _ _ _ _ c.rank-own.ensures c.rank-other.ensures c.if-other-own.true

pub returns : goal.returns
returns c = rank-same _ _ _ _ _ c.rank-own.ensures c.rank-other.ensures _ (omega arith) c.by_rest.ensures
