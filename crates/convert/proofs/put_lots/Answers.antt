use Prim.Native.Nat.{◌-◌}
use mathlib.Core.Path.{refl, ◌∙◌}
use mathlib.Core.Bool.{true}
use native.Mathlib.Omega.{arith}
use lib.ListN.{length-set}
use Rattle.venuerun.proofs.StandLaws.{reached, here, ready-here, there}
use Rattle.convert.proofs.LotLaws.{lots-stand, lots-few, lots-start, lots-again, lots-end}
use borrow.Author.Rules.{rules}
use Rattle.convert.proofs.put_lots.Goals as goal

pub loop-i-init : goal.loop-i-init
loop-i-init c =
    (search rules, (refl, (lots-stand _ c.requires.1.1 _ c.count-c.ensures.0, lots-start _ _ _ _ c.count-c.ensures.0)))

pub slice_bounds-lot_for-count : goal.slice_bounds-lot_for-count
slice_bounds-lot_for-count c =
    omega (arith, reached _ _ _ _ c.loop-i-test.true c.loop-i.invariant.1.1.0 _ c.next-e.ensures)

pub slice_bounds-lot_for-start : goal.slice_bounds-lot_for-start
slice_bounds-lot_for-start c =
    omega (arith, reached _ _ _ _ c.loop-i-test.true c.loop-i.invariant.1.1.0 _ c.next-e.ensures)

pub slice_bounds-lot_for-end : goal.slice_bounds-lot_for-end
slice_bounds-lot_for-end c =
    omega (arith, reached _ _ _ _ c.loop-i-test.true c.loop-i.invariant.1.1.0 _ c.next-e.ensures, (here _ _ _ _ c.loop-i-test.true c.loop-i.invariant.1.1.0).inside)

pub lot_for-requires : goal.lot_for-requires
lot_for-requires c =
    (c.requires.1.0, ready-here _ _ _ _ c.loop-i-test.true c.loop-i.invariant.1.1.0 _ c.next-e.ensures)

pub bounds-lots-i : goal.bounds-lots-i
bounds-lots-i c =
    omega (arith, c.loop-i-test.true, c.loop-i.invariant.1.0, c.requires.0, lots-few _ c.requires.1.1 _ c.count-c.ensures.0)

pub loop-i-preserved : goal.loop-i-preserved
loop-i-preserved c =
    (search rules, (length-set c.loop-i.lots c.loop-i.i c.lot_for.result ∙ c.loop-i.invariant.1.0, (there _ _ _ _ c.loop-i-test.true c.loop-i.invariant.1.1.0 _ c.next-e.ensures, lots-again _ _ _ _ _ _ _ c.loop-i-test.true c.loop-i.invariant.1.1.0 _ _ c.next-e.ensures c.lot_for.ensures (omega (arith, c.loop-i-test.true, c.loop-i.invariant.1.0, c.requires.0, lots-few _ c.requires.1.1 _ c.count-c.ensures.0)) c.loop-i.invariant.1.1.1)))

pub shape_of-lots : goal.shape_of-lots
shape_of-lots c = c.loop-i.invariant.1.0

pub returns : goal.returns
returns c = lots-end _ _ _ _ _ _ _ c.loop-i-test.false c.loop-i.invariant.1.1.1
