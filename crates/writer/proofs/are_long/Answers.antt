use Rattle.std.proofs.Common.{rules, leb, tests}
use Rattle.lists.proofs.Iteration.{every_from_all}
use Rattle.block.specs.Block.{message_shortest}
use Rattle.writer.proofs.are_long.Goals as goal

-- `writer::are_long` meets its contract.

pub returns : goal.returns
returns c = every_from_all (leb message_shortest) c.args.lengths.now _ (cc) c.all.ensures.ran (λ x b q k. search (rules, tests))
