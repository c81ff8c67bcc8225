use Rattle.std.proofs.Common.{rules}
use borrow.Author.Tests.{tests}
use Rattle.lists.specs.Lists.{between}
use Rattle.lists.proofs.Iteration.{every_from_all}
use Rattle.venuerules.proofs.are_between.Goals as goal

pub returns : goal.returns
returns c = every_from_all (between c.args.low c.args.high) c.args.s.now _ (cc) c.all.ensures.ran (λ x b q k. search (rules, tests))
