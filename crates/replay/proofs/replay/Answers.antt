use Prim.Native.Nat.{◌≤◌}
use mathlib.Core.Path.{refl}
use native.Mathlib.Omega.{arith}
use borrow.Author.Rules.{rules}
use Rattle.replay.proofs.StepLaws.{replaying-start, replayed-stop, replaying-goes}
use Rattle.replay.proofs.replay.Goals as goal

pub loop-stepped-init : goal.loop-stepped-init
loop-stepped-init c = (refl, replaying-start _ _ _ _)

pub slice_bounds-step-count : goal.slice_bounds-step-count
slice_bounds-step-count c = omega (arith, c.loop-stepped.invariant.0, c.loop-stepped.invariant.1.inside)

pub slice_bounds-step-start : goal.slice_bounds-step-start
slice_bounds-step-start c = omega (arith, c.loop-stepped.invariant.0, c.loop-stepped.invariant.1.inside)

pub overflow_add-written : goal.overflow_add-written
overflow_add-written c =
    let g = replaying-goes _ _ _ _ _ _ _ _ _ c.loop-stepped.invariant.1 c.loop-stepped.invariant.0 _ _ _ _ _ _ (rw c.in-Ok-Some.field-0-is at c.in-Ok-Some.ensures) c.step.auto.output c.step.auto.book refl in
    let r : _ ≤ _ = g.room in
    search rules

pub loop-stepped-smaller : goal.loop-stepped-smaller
loop-stepped-smaller c =
    let g = replaying-goes _ _ _ _ _ _ _ _ _ c.loop-stepped.invariant.1 c.loop-stepped.invariant.0 _ _ _ _ _ _ (rw c.in-Ok-Some.field-0-is at c.in-Ok-Some.ensures) c.step.auto.output c.step.auto.book refl in
    omega (arith, g.on, g.low)

pub loop-stepped-preserved : goal.loop-stepped-preserved
loop-stepped-preserved c =
    let g = replaying-goes _ _ _ _ _ _ _ _ _ c.loop-stepped.invariant.1 c.loop-stepped.invariant.0 _ _ _ _ _ _ (rw c.in-Ok-Some.field-0-is at c.in-Ok-Some.ensures) c.step.auto.output c.step.auto.book refl in
    (c.loop-stepped.invariant.0, g.next)

pub returns-in-Ok-None : goal.returns-in-Ok-None
returns-in-Ok-None c =
    replayed-stop _ _ _ _ _ _ _ _ _ c.loop-stepped.invariant.1 c.loop-stepped.invariant.0 _ _ _ _ _ _ (rw c.in-Ok-None.field-0-is at c.in-Ok-None.ensures) c.step.auto.output refl

pub returns-in-Err : goal.returns-in-Err
returns-in-Err c =
    replayed-stop _ _ _ _ _ _ _ _ _ c.loop-stepped.invariant.1 c.loop-stepped.invariant.0 _ _ _ _ _ _ c.in-Err.ensures c.step.auto.output refl
