use Prim.Native.Nat.{ℕ, ◌+◌, ◌-◌, ◌≤◌}
use mathlib.Core.Path.{refl, ap, sym, ◌∙◌}
use mathlib.Core.Bool.{Bool, cond}
use mathlib.Core.List.{List, []}
use native.Mathlib.Omega.{arith}
use lib.ListN.{take, drop}
use Rattle.numbers.proofs.RefusalLaws.{never-zero}
use Rattle.field.specs.Field.{splice, field}
use Rattle.calls.specs.Call.{snapshot}
use Rattle.calls.specs.Buffers.{feed_out}
use Rattle.logcalls.specs.Answers.{words_length, filled_most, lent_of}
use Rattle.logcalls.proofs.RoomLaws.{lent-most}
use Rattle.logcalls.proofs.WordLaws.{bare-bytes}
use Rattle.logcalls.proofs.RanLaws.{too_short, long-enough, rest-is, lent-long}
use Rattle.logqueries.proofs.AskLaws.{ran-feed, feed-most}
use Rattle.logqueries.proofs.snapshot.Goals as goal

pub returns-then-args-lt8 : goal.returns-then-args-lt8
returns-then-args-lt8 c =
    let a = c.args.args.now in
    too_short _ _ 8 a (snapshot (drop 8 a) (field a 0 8)) c.if-args-lt8.true

pub overflow_add-end : goal.overflow_add-end
overflow_add-end c = omega (arith, c.lent-room.ensures, lent-most c.get64.result filled_most)

pub slice_bounds-snapshot-end-2 : goal.slice_bounds-snapshot-end-2
slice_bounds-snapshot-end-2 c = omega (arith, c.lent-room.ensures, lent-most c.get64.result filled_most)

pub overflow_add-result : goal.overflow_add-result
overflow_add-result c =
    let short : c.in-Ok.size.bytes ≤ filled_most =
    feed-most c.args.book.now c.args.output.now c.get64.result (words_length + c.lent-room.result) _ _ _ [] c.requires _ _ (ap (λ (z : ℕ). words_length + z) c.lent-room.ensures) c.in-Ok.ensures c.snapshot-told.auto.output in
    omega (arith, short)

pub returns-in-Ok : goal.returns-in-Ok
returns-in-Ok c =
    let s = c.args in
    let a = s.args.now in
    long-enough _ _ 8 a (snapshot (drop 8 a) (field a 0 8)) _ c.if-args-lt8.false
    (ran-feed _ _ (field a 0 8) _ _ _ _ _ c.requires (drop 8 a) _
    (ap (λ (z : ℕ). words_length + z) (c.lent-room.ensures ∙ ap (λ (z : ℕ). lent_of z filled_most) c.get64.ensures))
    (c.in-Ok.ensures ∙ ap (λ (y : List ℕ). feed_out s.book.now y (take (words_length + c.lent-room.result - words_length) (drop words_length s.output.now))) (rest-is 8 a))
    c.snapshot-told.auto.output
    c.put_words.ensures)

pub returns-in-Err : goal.returns-in-Err
returns-in-Err c =
    let s = c.args in
    let a = s.args.now in
    rw c.refused.ensures.0 (
    long-enough _ _ 8 a (snapshot (drop 8 a) (field a 0 8)) _ c.if-args-lt8.false
    (ran-feed _ _ (field a 0 8) _ _ 0 _ _ c.requires (drop 8 a) 0
    (ap (λ (z : ℕ). words_length + z) (c.lent-room.ensures ∙ ap (λ (z : ℕ). lent_of z filled_most) c.get64.ensures))
    (c.in-Err.ensures ∙ ap (λ (y : List ℕ). feed_out s.book.now y (take (words_length + c.lent-room.result - words_length) (drop words_length s.output.now))) (rest-is 8 a))
    c.snapshot-told.auto.output
    (c.refused.ensures.1 ∙ ap (splice _ 0) (bare-bytes _))))
