use Rattle.std.proofs.Common.{rules}
use borrow.Author.Tests.{tests}
use Rattle.text.specs.Form.{symbol_good}
use Rattle.text.proofs.is_symbol.Goals as goal

pub returns-then-is_upper : goal.returns-then-is_upper
unfolding symbol_good
returns-then-is_upper c = search (rules, tests)

pub returns-else-is_upper : goal.returns-else-is_upper
unfolding symbol_good
returns-else-is_upper c = search (rules, tests)
