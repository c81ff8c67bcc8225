use Rattle.std.proofs.Common.{rules}
use Rattle.lists.proofs.Iteration.{sum_std}
use Rattle.writer.proofs.total.Goals as goal

-- `writer::total` meets its contract.

pub returns : goal.returns
returns c = search (rules, sum_std)
