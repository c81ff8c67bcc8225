use Prim.Native.Nat.{ℕ, ◌+◌, ◌*◌, ◌-◌, ◌≤◌}
use mathlib.Core.Path.{refl, ap, ap₂, ◌∙◌}
use mathlib.Core.Bool.{cond}
use mathlib.Core.List.{List}
use native.Mathlib.Omega.{arith}
use lib.ListN.{drop}
use lib.ListN as lists
use Rattle.block.specs.Block.{answer_length, count_in}
use Rattle.field.specs.Field.{field}
use Rattle.line.specs.Line.{done}
use Rattle.calls.specs.Call.{take}
use Rattle.calls.specs.Buffers.{taken}
use Rattle.logcalls.specs.Answers.{words_length, lent_of}
use Rattle.logcalls.proofs.RoomLaws.{lent-most}
use Rattle.logcalls.proofs.RanLaws.{too_short, long-enough, rest-is, lent-long, ran-take}
use Rattle.logchanges.proofs.take_block.Goals as goal

pub returns-then-args-lt12 : goal.returns-then-args-lt12
returns-then-args-lt12 c =
    let a = c.args.args.now in
    too_short _ _ 12 a (take (field a 0 4) (drop 12 a) (field a 4 8)) c.if-args-lt12.true

pub overflow_add-end : goal.overflow_add-end
overflow_add-end c = omega (arith, c.lent-room.ensures, lent-most c.get64.result answer_length)

pub slice_bounds-take_block-end-2 : goal.slice_bounds-take_block-end-2
slice_bounds-take_block-end-2 c = omega (arith, c.lent-room.ensures, lent-most c.get64.result answer_length)

pub put_words-requires : goal.put_words-requires
put_words-requires c =
    let o = c.args.output.now in
    omega (arith, lent-long o c.lent-room.result _ refl (omega (arith, c.lent-room.ensures, lent-most c.get64.result answer_length, c.requires)) c.take_block-told.new.answer c.take_block-told.auto.answer, c.requires)

pub returns : goal.returns
returns c =
    let s = c.args in
    let a = s.args.now in
    long-enough
    _
    _
    12
    a
    (take (field a 0 4) (drop 12 a) (field a 4 8))
    _
    c.if-args-lt12.false
    (ran-take
    _
    _
    (field a 0 4)
    (drop 12 a)
    (field a 4 8)
    _
    _
    _
    _
    _
    _
    (ap (λ (z : ℕ). words_length + z) (c.lent-room.ensures ∙ ap (λ (z : ℕ). lent_of z answer_length) c.get64.ensures))
    c.requires
    (c.take_block-told.ensures ∙ ap₂ (λ (x : ℕ) (y : List ℕ). taken s.book.now x y (lists.take (words_length + c.lent-room.result - words_length) (drop words_length s.output.now))) c.get32-line.ensures (rest-is 12 a))
    c.take_block-told.auto.answer
    (c.answer_len-len.ensures.0 ∙ ap (λ (y : List ℕ). cond (done c.take_block-told.result.number) (4 * count_in y) 0) (rest-is 12 a))
    c.put_words.ensures)
