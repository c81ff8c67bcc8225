use mathlib.Core.Path.{refl}
use Rattle.walk.proofs.StepLaws.{lead-again, lead-end}
use borrow.Author.Rules.{rules}
use Rattle.walk.proofs.lead_all.Goals as goal

-- `walk::lead_all` meets its contract.

pub loop-letter-init : goal.loop-letter-init
loop-letter-init c = (search rules, search rules, refl, refl)

pub loop-letter-preserved : goal.loop-letter-preserved
loop-letter-preserved c = (search rules, search rules, search rules, lead-again _ _ _ _ _ _ _ _ c.loop-letter-test.true c.loop-letter.invariant.3 c.standing.ensures c.lead_with-lead.ensures)

pub returns : goal.returns
returns c = lead-end _ _ _ _ _ _ c.loop-letter-test.false c.loop-letter.invariant.3
