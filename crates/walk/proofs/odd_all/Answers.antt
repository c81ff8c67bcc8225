use mathlib.Core.Path.{refl}
use Rattle.walk.proofs.StepLaws.{best-again, best-end}
use borrow.Author.Rules.{rules}
use Rattle.walk.proofs.odd_all.Goals as goal

-- `walk::odd_all` meets its contract.

pub loop-letter-init : goal.loop-letter-init
loop-letter-init c = (search rules, search rules, refl, refl)

pub loop-letter-preserved : goal.loop-letter-preserved
loop-letter-preserved c = (search rules, search rules, search rules, best-again _ _ _ _ _ _ _ _ c.loop-letter-test.true c.loop-letter.invariant.3 c.odd_first.ensures c.choose-best.ensures)

pub returns : goal.returns
returns c = best-end _ _ _ _ _ _ c.loop-letter-test.false c.loop-letter.invariant.3
