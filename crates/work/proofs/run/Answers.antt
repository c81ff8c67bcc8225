use native.Mathlib.Omega.{arith}
use Rattle.block.proofs.CheckLaws.{passed, passed-readable}
use Rattle.work.proofs.RunLaws.{going_start, going-again, going_end, message-place, message-is}
use Rattle.work.proofs.run.Goals as goal

pub loop-i-init : goal.loop-i-init
loop-i-init c = going_start _ _ _ _ _ c.requires.book_value.0

pub start-a-requires : goal.start-a-requires
start-a-requires c = passed-readable _ _ (passed _ _ c.requires.block_value)

pub start-e-requires : goal.start-e-requires
start-e-requires c = passed-readable _ _ (passed _ _ c.requires.block_value)

pub slice_bounds-work-count : goal.slice_bounds-work-count
slice_bounds-work-count c =
    omega (arith, message-place _ _ _ _ _ c.requires.block_value c.loop-i-test.true c.start-a.ensures.0 c.start-e.ensures.0)

pub slice_bounds-work-start : goal.slice_bounds-work-start
slice_bounds-work-start c =
    omega (arith, message-place _ _ _ _ _ c.requires.block_value c.loop-i-test.true c.start-a.ensures.0 c.start-e.ensures.0)

pub slice_bounds-work-end : goal.slice_bounds-work-end
slice_bounds-work-end c =
    omega (arith, message-place _ _ _ _ _ c.requires.block_value c.loop-i-test.true c.start-a.ensures.0 c.start-e.ensures.0)

pub work-told-requires : goal.work-told-requires
work-told-requires c =
    (c.loop-i.invariant.good, c.requires.book_value.1)

pub put_answer-requires : goal.put_answer-requires
put_answer-requires c =
    let q = passed _ _ c.requires.block_value in
    (omega (arith, c.loop-i-test.true, q.counted, q.table.few), omega (arith, c.loop-i.invariant.room, c.requires.answer_length_in_bounds))

pub with-tally-requires : goal.with-tally-requires
with-tally-requires c =
    let q = passed _ _ c.requires.block_value in
    (omega (arith, c.loop-i-test.true, q.counted, q.table.few, c.loop-i.invariant.accepted), (omega (arith, c.loop-i-test.true, q.counted, q.table.few, c.loop-i.invariant.partly), omega (arith, c.loop-i-test.true, q.counted, q.table.few, c.loop-i.invariant.rejected)))

pub loop-i-preserved : goal.loop-i-preserved
loop-i-preserved c =
    let m = message-is _ _ _ _ c.start-a.ensures.0 c.start-e.ensures.0 in
    going-again _ _ _ _ _ _ _ _ _ c.loop-i-test.true c.loop-i.invariant c.requires.book_value.1 _ _ _ _ (rw m at c.work-told.ensures.0) (rw m at c.work-told.ensures.1) c.put_answer.ensures c.with-tally.ensures c.work-told.auto.book c.put_answer.auto.answer

pub shape_of-book : goal.shape_of-book
shape_of-book c = c.loop-i.invariant.size

pub shape_of-answer : goal.shape_of-answer
shape_of-answer c = c.loop-i.invariant.room

pub returns : goal.returns
returns c =
    let q = passed _ _ c.requires.block_value in
    going_end _ _ _ _ _ _ _ _ _ c.loop-i-test.false (omega (arith, c.loop-i.invariant.low, c.loop-i.invariant.room, c.requires.answer_length_in_bounds, q.counted, q.table.few)) q.counted c.loop-i.invariant
