use native.Mathlib.Omega.{arith}
use Rattle.numbers.proofs.RefusalLaws.{passed_up}
use Rattle.query.proofs.AskedLaws.{asked-room}
use Rattle.query.proofs.OrderLaws.{order-room, refused-asked, refused-order, try-refused, try-done}
use borrow.Author.Rules.{rules}
use Rattle.query.proofs.try_order.Goals as goal

-- `query::try_order` meets its contract.

pub returns-in_err-order : goal.returns-in_err-order
returns-in_err-order c =
    rw (passed_up c.from_residual.result _ c.from_residual.ensures.1)
    (try-refused _ _ _ _ _ _ (refused-asked _ _ _ _ _ _ c.in_err-order.ensures))

pub returns-in_err-measure : goal.returns-in_err-measure
returns-in_err-measure c =
    rw (passed_up c.from_residual-in_err-measure.result _ c.from_residual-in_err-measure.ensures.1)
    (try-refused _ _ _ _ _ _ (refused-order _ _ _ _ _ _ _ c.in_ok-order.ensures c.in_err-measure.ensures))

pub overflow_mul-start : goal.overflow_mul-start
overflow_mul-start c = omega (arith, (asked-room _ _ _ _ c.in_ok-order.ensures).1)

pub overflow_add-start : goal.overflow_add-start
overflow_add-start c = omega (arith, (asked-room _ _ _ _ c.in_ok-order.ensures).1)

pub overflow_add-end : goal.overflow_add-end
overflow_add-end c = omega (arith, (asked-room _ _ _ _ c.in_ok-order.ensures).1)

pub slice_bounds-play-end : goal.slice_bounds-play-end
slice_bounds-play-end c = omega (arith, (asked-room _ _ _ _ c.in_ok-order.ensures).0)

pub play-requires : goal.play-requires
play-requires c =
    record { page_len = search rules; steps_length_in_bounds = order-room _ _ c.in_ok-measure.ensures }

pub returns : goal.returns
returns c = try-done _ _ _ _ _ _ _ _ c.in_ok-order.ensures c.in_ok-measure.ensures (rw c.against.ensures at c.play.ensures)
