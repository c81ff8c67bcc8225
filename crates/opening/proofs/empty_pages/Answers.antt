use Rattle.std.proofs.Common.{refl, rules}
use Rattle.update.specs.Parts.{emptied}
use Rattle.opening.proofs.WriteLaws.{each_start, each_again, each-end}
use Rattle.opening.proofs.empty_pages.Goals as goal

pub loop-k-init : goal.loop-k-init
loop-k-init c = (each_start emptied _ _, (search rules, refl))

pub loop-k-preserved : goal.loop-k-preserved
loop-k-preserved c =
    (each_again emptied _ _ _ _ _ c.loop-k-test.true c.loop-k.invariant.0 c.empty.ensures (search rules), (search rules, search rules))

pub returns : goal.returns
returns c = each-end emptied _ _ _ _ c.loop-k-test.false c.loop-k.invariant.0
