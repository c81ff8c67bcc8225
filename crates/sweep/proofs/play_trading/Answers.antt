use native.Mathlib.Omega.{arith}
use Rattle.sweep.proofs.LoopLaws.{going_start, going-unwanted, going-exhausted, going-again, going_end}
use Rattle.sweep.proofs.NextLaws.{least-min}
use Rattle.sweep.proofs.play_trading.Goals as goal

-- `sweep::play_trading` meets its contract.

pub loop-i-init : goal.loop-i-init
loop-i-init c = going_start _ (λ i. (c.shared_slice_known-1.given i).fits) _ _ _

pub shape_of-out-then-wanted-eq0 : goal.shape_of-out-then-wanted-eq0
shape_of-out-then-wanted-eq0 c = c.loop-i.invariant.size

pub returns-then-wanted-eq0 : goal.returns-then-wanted-eq0
returns-then-wanted-eq0 c =
    going-unwanted _ (λ i. (c.shared_slice_known-1.given i).fits) _ _ _ c.requires.steps_length_in_bounds _ _ _ _ c.loop-i.invariant c.if-wanted-eq0.true

pub shape_of-out-then-best-eq0 : goal.shape_of-out-then-best-eq0
shape_of-out-then-best-eq0 c = c.loop-i.invariant.size

pub returns-then-best-eq0 : goal.returns-then-best-eq0
returns-then-best-eq0 c =
    going-exhausted _ (λ i. (c.shared_slice_known-1.given i).fits) _ _ _ c.requires.steps_length_in_bounds _ _ _ _ c.loop-i.invariant _ c.next-best.ensures c.if-best-eq0.true

pub put_step-requires : goal.put_step-requires
put_step-requires c =
    omega (arith, c.loop-i-test.true, c.loop-i.invariant.size, c.requires.steps_length_in_bounds)

pub overflow_sub-wanted : goal.overflow_sub-wanted
overflow_sub-wanted c = (least-min _ _ _ c.min-taken.ensures).1

pub loop-i-preserved : goal.loop-i-preserved
loop-i-preserved c =
    going-again _ (λ i. (c.shared_slice_known-1.given i).fits) _ _ _ c.requires.steps_length_in_bounds _ _ _ _ c.loop-i.invariant _ c.next-best.ensures _ _
    c.loop-i-test.true c.if-wanted-eq0.false c.if-best-eq0.false (least-min _ _ _ c.min-taken.ensures).0 c.put_step.auto.out c.put_step.ensures

pub shape_of-out : goal.shape_of-out
shape_of-out c = c.loop-i.invariant.size

pub returns : goal.returns
returns c =
    going_end _ (λ i. (c.shared_slice_known-1.given i).fits) _ _ _ c.requires.steps_length_in_bounds _ _ _ _ c.loop-i.invariant c.loop-i-test.false
