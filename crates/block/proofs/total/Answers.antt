use Rattle.std.proofs.Common.{rules}
use Rattle.lists.proofs.Iteration.{sum_std}
use Rattle.block.proofs.total.Goals as goal

pub returns : goal.returns
returns c = search (rules, sum_std)
