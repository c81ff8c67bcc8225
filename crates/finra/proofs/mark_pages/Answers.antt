use mathlib.Core.Path.{refl}
use Rattle.finra.proofs.FinraLaws.{marking-start, marking-again, marking-end, joined-start, joined-again, joined_end}
use Rattle.finra.proofs.mark_pages.Goals as goal

pub loop-k-init : goal.loop-k-init
loop-k-init c = (marking-start _ _ _ _ _ c.requires.0 refl, joined-start _ _ _ _)

pub loop-k-preserved : goal.loop-k-preserved
loop-k-preserved c =
    (marking-again _ _ _ c.requires.1.1 _ _ _ c.loop-k-test.true c.loop-k.invariant.0 _ c.finra-flags.ensures.1, joined-again _ _ _ _ _ _ c.loop-k.flags _ _ c.loop-k-test.true c.loop-k.invariant.0 c.loop-k.invariant.1 c.finra-flags.ensures.0)

pub returns : goal.returns
returns c = (joined_end _ _ _ _ _ _ c.loop-k-test.false c.loop-k.invariant.1, marking-end _ _ _ _ _ _ c.loop-k-test.false c.loop-k.invariant.0)
