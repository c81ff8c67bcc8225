use borrow.Author.Rules.{rules}
use Rattle.logcalls.proofs.RanLaws.{done-one, done_none}
use Rattle.logchanges.proofs.answer_len.Goals as goal

pub returns-in-0 : goal.returns-in-0
returns-in-0 c = (done-one _ _ c.args.block.now c.in-0.is c.byte.ensures, search rules)

pub returns-in_default : goal.returns-in_default
returns-in_default c = (done_none _ c.args.block.now c.in_default.in_default-own.rest.1, search rules)
