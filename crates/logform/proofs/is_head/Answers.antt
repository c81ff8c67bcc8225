use Rattle.std.proofs.Common.{rules, tests}
use Rattle.field.specs.Field.{part}
use Rattle.logform.specs.Log.{is_head}
use Rattle.logform.proofs.is_head.Goals as goal

pub returns-then-get8-eq-VERSION : goal.returns-then-get8-eq-VERSION
unfolding is_head part
returns-then-get8-eq-VERSION c = search (rules, tests)

pub returns-else-get8-eq-VERSION : goal.returns-else-get8-eq-VERSION
unfolding is_head part
returns-else-get8-eq-VERSION c = search (rules, tests)
