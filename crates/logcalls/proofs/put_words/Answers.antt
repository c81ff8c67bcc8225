use mathlib.Core.Path.{refl}
use Rattle.logcalls.proofs.WordLaws.{words-again, words-end}
use Rattle.logcalls.proofs.put_words.Goals as goal

pub loop-i-init : goal.loop-i-init
loop-i-init c = refl

pub loop-i-preserved : goal.loop-i-preserved
loop-i-preserved c = words-again _ _ _ _ _ c.loop-i-test.true c.loop-i.invariant c.put64.ensures

pub returns : goal.returns
returns c = words-end _ _ _ _ c.loop-i-test.false c.loop-i.invariant
