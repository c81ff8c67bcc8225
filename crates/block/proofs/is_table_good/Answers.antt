use Rattle.std.proofs.Common.{rules, tests}
use Rattle.block.specs.Block.{table_good}
use Rattle.block.proofs.is_table_good.Goals as goal

pub returns-then-start-c : goal.returns-then-start-c
unfolding table_good
returns-then-start-c c = search (rules, tests)

pub returns-else-start-c : goal.returns-else-start-c
unfolding table_good
returns-else-start-c c = search (rules, tests)
