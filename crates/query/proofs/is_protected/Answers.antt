use native.Mathlib.Omega.{arith}
use Rattle.numbers.proofs.RefusalLaws.{passed_up}
use Rattle.query.proofs.AskedLaws.{asked-room, query-refused, query-done}
use Rattle.query.proofs.is_protected.Goals as goal

-- `query::is_protected` meets its contract.

pub returns-in_err-asked : goal.returns-in_err-asked
returns-in_err-asked c =
    rw (passed_up c.from_residual.result _ c.from_residual.ensures.1) (query-refused _ _ _ _ _ c.in_err-asked.ensures)

pub overflow_mul-a : goal.overflow_mul-a
overflow_mul-a c = omega (arith, (asked-room _ _ _ _ c.in_ok-asked.ensures).1)

pub overflow_add-a : goal.overflow_add-a
overflow_add-a c = omega (arith, (asked-room _ _ _ _ c.in_ok-asked.ensures).1)

pub overflow_add-e : goal.overflow_add-e
overflow_add-e c = omega (arith, (asked-room _ _ _ _ c.in_ok-asked.ensures).1)

pub slice_bounds-look-end : goal.slice_bounds-look-end
slice_bounds-look-end c = omega (arith, (asked-room _ _ _ _ c.in_ok-asked.ensures).0)

pub returns : goal.returns
returns c = query-done _ _ _ _ _ _ c.in_ok-asked.ensures c.look.ensures
