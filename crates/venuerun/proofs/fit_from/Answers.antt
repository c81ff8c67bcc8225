use Rattle.std.proofs.Common.{arith, rules}
use Rattle.venuerun.proofs.StandLaws.{reached, here, there}
use Rattle.venuerun.proofs.TurnLaws.{fit-stands, fit-start, fit-stop, fit-again, fit-end}
use Rattle.venuerun.proofs.fit_from.Goals as goal

pub loop-i-init : goal.loop-i-init
loop-i-init c = (search rules, (fit-stands _ _ _ c.requires, (omega arith, fit-start _ _ _)))

pub slice_bounds-converted_len-count : goal.slice_bounds-converted_len-count
slice_bounds-converted_len-count c =
    omega (arith, reached _ _ _ _ c.loop-i-test.true c.loop-i.invariant.1.0 _ c.next-e.ensures)

pub slice_bounds-converted_len-start : goal.slice_bounds-converted_len-start
slice_bounds-converted_len-start c =
    omega (arith, reached _ _ _ _ c.loop-i-test.true c.loop-i.invariant.1.0 _ c.next-e.ensures)

pub slice_bounds-converted_len-end : goal.slice_bounds-converted_len-end
slice_bounds-converted_len-end c =
    omega (arith, reached _ _ _ _ c.loop-i-test.true c.loop-i.invariant.1.0 _ c.next-e.ensures, (here _ _ _ _ c.loop-i-test.true c.loop-i.invariant.1.0).inside)

pub overflow_add-with : goal.overflow_add-with
overflow_add-with c =
    omega (arith, c.loop-i.invariant.1.1.0)

pub overflow_add-with-in-loop-i : goal.overflow_add-with-in-loop-i
overflow_add-with-in-loop-i c =
    omega (arith, c.loop-i.invariant.1.1.0, c.converted_len-n.ensures.1)

pub returns-then-with-gt-LONGEST : goal.returns-then-with-gt-LONGEST
returns-then-with-gt-LONGEST c =
    fit-stop _ _ _ _ _ _ c.loop-i-test.true c.loop-i.invariant.1.0 c.loop-i.invariant.1.1.1 _ _ c.next-e.ensures c.converted_len-n.ensures.0 (omega arith)

pub loop-i-preserved : goal.loop-i-preserved
loop-i-preserved c =
    (search rules, (there _ _ _ _ c.loop-i-test.true c.loop-i.invariant.1.0 _ c.next-e.ensures, (omega arith, fit-again _ _ _ _ _ _ c.loop-i-test.true c.loop-i.invariant.1.0 c.loop-i.invariant.1.1.1 _ _ c.next-e.ensures c.converted_len-n.ensures.0 _ (omega arith) (omega arith))))

pub returns : goal.returns
returns c =
    fit-end _ _ _ _ _ _ c.loop-i-test.false c.loop-i.invariant.0 c.loop-i.invariant.1.1.1
