use Rattle.std.proofs.Common.{rules, le-leb}
use borrow.Author.Tests.{lt-leb}
use Rattle.lists.proofs.Searches.{all_start, all-fails, all-again, all_end}
use Rattle.block.specs.Block.{spaced}
use Rattle.block.proofs.is_spaced.Goals as goal

pub loop-i-init : goal.loop-i-init
loop-i-init c = (search rules, all_start _ _)

pub returns-then-start : goal.returns-then-start
unfolding spaced
returns-then-start c =
    rw (← c.requires.counted)
    (all-fails _ _ _ _ c.loop-i-test.true c.loop-i.invariant.1
    (rw (← c.start.ensures.0, ← c.start-in-loop-i.ensures.0) (lt-leb _ _ c.if-start.true)))

pub loop-i-preserved : goal.loop-i-preserved
loop-i-preserved c = (
  search rules,
  all-again _ _ _ _ c.loop-i-test.true c.loop-i.invariant.1
      (rw (← c.start.ensures.0, ← c.start-in-loop-i.ensures.0) (le-leb _ _ c.if-start.false)),
)

pub returns : goal.returns
unfolding spaced
returns c = rw (← c.requires.counted) (all_end _ _ _ _ c.loop-i-test.false c.loop-i.invariant.1)
