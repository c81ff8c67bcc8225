use borrow.Author.Rules.{rules}
use Rattle.logform.specs.Log.{mixed}
use Rattle.logform.proofs.mix.Goals as goal

pub returns : goal.returns
unfolding mixed
returns c = search rules
