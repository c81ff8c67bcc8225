use Rattle.levels.proofs.CellLaws.{ahead-is}
use borrow.Author.Rules.{rules}
use Rattle.levels.proofs.is_ahead.Goals as goal

pub returns : goal.returns
returns c = let a = c.args in ahead-is a.side a.first a.second _ _ c.rank.ensures c.rank-2.ensures (search rules) (search rules)
