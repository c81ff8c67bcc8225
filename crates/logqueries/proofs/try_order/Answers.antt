use Prim.Native.Nat.{ℕ, ◌+◌, ◌-◌, ◌≤◌}
use mathlib.Core.Path.{refl, ap, sym, ◌∙◌}
use mathlib.Core.Bool.{Bool, cond}
use mathlib.Core.List.{List, []}
use native.Mathlib.Omega.{arith}
use lib.ListN.{take, drop}
use Rattle.numbers.proofs.RefusalLaws.{never-zero}
use Rattle.field.specs.Field.{splice, field}
use Rattle.sweep.specs.Sweep.{steps_length}
use Rattle.calls.specs.Call.{try_order}
use Rattle.calls.specs.Buffers.{order_out}
use Rattle.logcalls.specs.Answers.{words_length, filled_most, lent_of}
use Rattle.logcalls.proofs.RoomLaws.{lent-most}
use Rattle.logcalls.proofs.WordLaws.{bare-bytes}
use Rattle.logcalls.proofs.RanLaws.{too_short, long-enough, rest-is, lent-long}
use Rattle.logqueries.proofs.AskLaws.{ran-order}
use Rattle.logqueries.proofs.try_order.Goals as goal

pub returns-then-args-lt13 : goal.returns-then-args-lt13
returns-then-args-lt13 c =
    let a = c.args.args.now in
    too_short _ _ 13 a (try_order (drop 13 a) (field a 0 1) (field a 1 4) (field a 5 8)) c.if-args-lt13.true

pub overflow_add-end : goal.overflow_add-end
overflow_add-end c = omega (arith, c.lent-room.ensures, lent-most c.get64.result steps_length)

pub slice_bounds-try_order-end-2 : goal.slice_bounds-try_order-end-2
slice_bounds-try_order-end-2 c = omega (arith, c.lent-room.ensures, lent-most c.get64.result steps_length)

pub returns-in-Ok : goal.returns-in-Ok
returns-in-Ok c =
    let s = c.args in
    let a = s.args.now in
    long-enough _ _ 13 a (try_order (drop 13 a) (field a 0 1) (field a 1 4) (field a 5 8)) _ c.if-args-lt13.false
    (ran-order _ _ (field a 5 8) _ _ _ _ _ c.requires (drop 13 a) (field a 0 1) (field a 1 4) _ _
    (ap (λ (z : ℕ). words_length + z) (c.lent-room.ensures ∙ ap (λ (z : ℕ). lent_of z steps_length) c.get64.ensures))
    (c.in-Ok.ensures ∙ (λ j. order_out s.book.now (rest-is 13 a j) (c.get8-mark.ensures j) (c.get32-lots.ensures j) (take (words_length + c.lent-room.result - words_length) (drop words_length s.output.now))))
    c.try_order-told.auto.steps
    refl c.put_words.ensures)

pub returns-in-Err : goal.returns-in-Err
returns-in-Err c =
    let s = c.args in
    let a = s.args.now in
    rw c.refused.ensures.0 (
    long-enough _ _ 13 a (try_order (drop 13 a) (field a 0 1) (field a 1 4) (field a 5 8)) _ c.if-args-lt13.false
    (ran-order _ _ (field a 5 8) _ _ 0 _ _ c.requires (drop 13 a) (field a 0 1) (field a 1 4) 0 0
    (ap (λ (z : ℕ). words_length + z) (c.lent-room.ensures ∙ ap (λ (z : ℕ). lent_of z steps_length) c.get64.ensures))
    (c.in-Err.ensures ∙ (λ j. order_out s.book.now (rest-is 13 a j) (c.get8-mark.ensures j) (c.get32-lots.ensures j) (take (words_length + c.lent-room.result - words_length) (drop words_length s.output.now))))
    c.try_order-told.auto.steps
    refl (c.refused.ensures.1 ∙ ap (splice _ 0) (bare-bytes _))))
