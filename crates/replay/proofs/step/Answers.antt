use mathlib.Core.Path.{sym, ◌∙◌}
use native.Mathlib.Omega.{arith}
use Rattle.logform.proofs.LogLaws.{whole}
use Rattle.replay.proofs.StepLaws.{step_end, step_cut, step-damaged, step-no-call, step-full, step-goes}
use Rattle.replay.proofs.step.Goals as goal

pub returns-in-End : goal.returns-in-End
returns-in-End c = step_end _ _ _ _ _ c.entry_at.ensures c.in-End.is

pub returns-in-Cut : goal.returns-in-Cut
returns-in-Cut c = step_cut _ _ _ _ _ c.entry_at.ensures c.in-Cut.is

pub returns-in-Damaged : goal.returns-in-Damaged
returns-in-Damaged c = step-damaged _ _ _ _ _ c.entry_at.ensures c.in-Damaged.is

-- what the record satisfies

pub slice_bounds-args-count : goal.slice_bounds-args-count
slice_bounds-args-count c =
    (whole _ _ _ (sym c.entry_at.ensures ∙ c.in-Record.is)).order

pub slice_bounds-args-start : goal.slice_bounds-args-start
slice_bounds-args-start c =
    (whole _ _ _ (sym c.entry_at.ensures ∙ c.in-Record.is)).order

pub slice_bounds-args-end : goal.slice_bounds-args-end
slice_bounds-args-end c =
    omega (arith, (whole _ _ _ (sym c.entry_at.ensures ∙ c.in-Record.is)).inside)

pub overflow_add-result : goal.overflow_add-result
overflow_add-result c =
    omega (arith, (whole _ _ _ (sym c.entry_at.ensures ∙ c.in-Record.is)).inside)

pub returns-then-not-is_call : goal.returns-then-not-is_call
returns-then-not-is_call c = step-no-call _ _ _ _ _ c.entry_at.ensures _ c.in-Record.is (sym c.is_call.ensures ∙ c.if-not-is_call.true)

pub returns-then-output-lt-MOST : goal.returns-then-output-lt-MOST
returns-then-output-lt-MOST c =
    step-full _ _ _ _ _ c.entry_at.ensures _ c.in-Record.is (sym c.is_call.ensures ∙ c.if-not-is_call.false) c.if-output-lt-MOST.true

pub returns-in-Some : goal.returns-in-Some
returns-in-Some c =
    step-goes _ _ _ _ _ c.entry_at.ensures _ c.in-Record.is _ _ _ _ (sym c.is_call.ensures ∙ c.if-not-is_call.false) c.if-output-lt-MOST.false c.in-Some.ensures
