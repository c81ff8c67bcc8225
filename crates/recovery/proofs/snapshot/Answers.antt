use native.Mathlib.Omega.{arith}
use Rattle.numbers.proofs.RefusalLaws.{passed_up}
use Rattle.recovery.proofs.FedLaws.{known-room, lent-for, feed-refusal, feed-done}
use Rattle.recovery.proofs.snapshot.Goals as goal

-- `recovery::snapshot` meets its contract.

pub returns-in_err-page : goal.returns-in_err-page
returns-in_err-page c =
    rw (passed_up c.from_residual.result _ c.from_residual.ensures.1) (feed-refusal _ _ _ _ c.in_err-page.ensures)

pub overflow_mul-a : goal.overflow_mul-a
overflow_mul-a c = omega (arith, (known-room _ _ _ c.in_ok-page.ensures).1)

pub overflow_add-a : goal.overflow_add-a
overflow_add-a c = omega (arith, (known-room _ _ _ c.in_ok-page.ensures).1)

pub overflow_add-e : goal.overflow_add-e
overflow_add-e c = omega (arith, (known-room _ _ _ c.in_ok-page.ensures).1)

pub slice_bounds-fill-end : goal.slice_bounds-fill-end
slice_bounds-fill-end c = omega (arith, (known-room _ _ _ c.in_ok-page.ensures).0)

pub fill-requires : goal.fill-requires
fill-requires c = lent-for _ _ _ c.in_ok-page.ensures

pub returns : goal.returns
returns c = feed-done _ _ _ _ _ c.in_ok-page.ensures c.fill.ensures
