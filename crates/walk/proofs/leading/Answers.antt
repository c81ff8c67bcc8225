use borrow.Author.Rules.{rules}
use native.Mathlib.Omega.{arith}
use mathlib.Core.Path.{refl}
use Rattle.keysets.proofs.FoldLaws.{lowest-member, fold-again, fold_end}
use Rattle.walk.proofs.KeyLaws.{out-less-by}
use Rattle.walk.proofs.LeadingLaws.{show-step}
use Rattle.walk.proofs.leading.Goals as goal

-- `walk::leading` meets its contract.

pub loop-left-init : goal.loop-left-init
loop-left-init c = (search rules, refl)

pub without-left-requires : goal.without-left-requires
without-left-requires c = lowest-member _ _ (omega (arith, c.loop-left-test.true)) c.loop-left.invariant.0 c.lowest-i.ensures.0

pub loop-left-smaller : goal.loop-left-smaller
loop-left-smaller c = out-less-by _ _ _ (omega (arith, c.loop-left-test.true)) c.loop-left.invariant.0 c.lowest-i.ensures.0 c.without-left.ensures

pub loop-left-preserved : goal.loop-left-preserved
loop-left-preserved c = (omega (arith, c.without-left.ensures, c.loop-left.invariant.0), fold-again _ _ (omega (arith, c.loop-left-test.true)) c.loop-left.invariant.0 c.lowest-i.ensures.0 _ _ _ _ _ c.without-left.ensures (show-step _ _ _ _ _ _ _ c.show.ensures c.beside-best.ensures) c.loop-left.invariant.1)

pub returns : goal.returns
returns c = fold_end _ _ _ _ c.loop-left-test.false c.loop-left.invariant.1
