use Rattle.std.proofs.Common.{rules, tests}
use Rattle.quote.specs.Quote.{time_kept}
use Rattle.quote.proofs.Level.time_over.Goals as goal

pub returns-then-self-standing-2 : goal.returns-then-self-standing-2
unfolding time_kept
returns-then-self-standing-2 c = search (rules, tests)

pub returns-else-self-standing : goal.returns-else-self-standing
unfolding time_kept
returns-else-self-standing c = search (rules, tests)
