use native.Mathlib.Omega.{arith}
use Rattle.numbers.proofs.RefusalLaws.{passed_up}
use Rattle.recovery.proofs.FedLaws.{known-room, len-refusal, len-done}
use Rattle.recovery.proofs.snapshot_len.Goals as goal

-- `recovery::snapshot_len` meets its contract.

pub returns-in_err-k : goal.returns-in_err-k
returns-in_err-k c =
    rw (passed_up c.from_residual.result _ c.from_residual.ensures.1) (len-refusal _ _ _ c.in_err-k.ensures)

pub overflow_mul-a : goal.overflow_mul-a
overflow_mul-a c = omega (arith, (known-room _ _ _ c.in_ok-k.ensures).1)

pub overflow_add-a : goal.overflow_add-a
overflow_add-a c = omega (arith, (known-room _ _ _ c.in_ok-k.ensures).1)

pub overflow_add-e : goal.overflow_add-e
overflow_add-e c = omega (arith, (known-room _ _ _ c.in_ok-k.ensures).1)

pub slice_bounds-count-end : goal.slice_bounds-count-end
slice_bounds-count-end c = omega (arith, (known-room _ _ _ c.in_ok-k.ensures).0)

pub returns : goal.returns
returns c = len-done _ _ _ _ _ _ c.in_ok-k.ensures c.count.ensures.0 c.of.ensures.0 c.of.ensures.1
