use Rattle.std.proofs.Common.{arith}
use Rattle.venuerun.proofs.StandLaws.{reached, here}
use Rattle.venuerun.proofs.NeededLaws.{needed-start, needed-with, needed-again, needed-end}
use Rattle.venuerun.proofs.needed.Goals as goal

pub loop-i-init : goal.loop-i-init
loop-i-init c = needed-start _ _ c.requires c.count-c.ensures.0

pub slice_bounds-converted_len-count : goal.slice_bounds-converted_len-count
slice_bounds-converted_len-count c =
    omega (arith, reached _ _ _ _ c.loop-i-test.true c.loop-i.invariant.stand _ c.next-e.ensures)

pub slice_bounds-converted_len-start : goal.slice_bounds-converted_len-start
slice_bounds-converted_len-start c =
    omega (arith, reached _ _ _ _ c.loop-i-test.true c.loop-i.invariant.stand _ c.next-e.ensures)

pub slice_bounds-converted_len-end : goal.slice_bounds-converted_len-end
slice_bounds-converted_len-end c =
    omega (arith, reached _ _ _ _ c.loop-i-test.true c.loop-i.invariant.stand _ c.next-e.ensures, (here _ _ _ _ c.loop-i-test.true c.loop-i.invariant.stand).inside)

pub with-fill-requires : goal.with-fill-requires
with-fill-requires c =
    needed-with _ _ _ _ _ c.loop-i.invariant c.loop-i-test.true _ _ c.next-e.ensures c.converted_len-n.ensures.0 c.count-c.ensures.1

pub loop-i-preserved : goal.loop-i-preserved
loop-i-preserved c =
    needed-again _ _ _ _ _ c.loop-i.invariant c.loop-i-test.true _ _ c.next-e.ensures c.converted_len-n.ensures.0 _ c.with-fill.ensures

pub overflow_add-result : goal.overflow_add-result
overflow_add-result c =
    omega (arith, c.loop-i.invariant.used, c.loop-i.invariant.closed, c.loop-i.invariant.low, c.count-c.ensures.1)

pub returns : goal.returns
returns c =
    needed-end _ _ _ _ _ c.loop-i.invariant c.loop-i-test.false
