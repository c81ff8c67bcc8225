use Rattle.std.proofs.Common.{refl, ◌∙◌, arith}
use Rattle.venuerun.proofs.StandLaws.{reached, here, ready-here}
use Rattle.venuerun.proofs.TurnLaws.{put-start, put-room, put-lent, put-again, put-end}
use Rattle.venuerun.proofs.put_messages.Goals as goal

pub overflow_mul-at : goal.overflow_mul-at
overflow_mul-at c =
    omega (arith, c.requires.1.0)

pub overflow_add-at : goal.overflow_add-at
overflow_add-at c =
    omega (arith, c.requires.1.0)

pub loop-j-init : goal.loop-j-init
loop-j-init c =
    put-start _ _ _ _ _ _ _ c.requires.0 c.requires.1.1.1.1

pub slice_bounds-converted_len-count : goal.slice_bounds-converted_len-count
slice_bounds-converted_len-count c =
    omega (arith, reached _ _ _ _ c.loop-j-test.true c.loop-j.invariant.stand _ c.next-e.ensures)

pub slice_bounds-converted_len-start : goal.slice_bounds-converted_len-start
slice_bounds-converted_len-start c =
    omega (arith, reached _ _ _ _ c.loop-j-test.true c.loop-j.invariant.stand _ c.next-e.ensures)

pub slice_bounds-converted_len-end : goal.slice_bounds-converted_len-end
slice_bounds-converted_len-end c =
    omega (arith, reached _ _ _ _ c.loop-j-test.true c.loop-j.invariant.stand _ c.next-e.ensures, (here _ _ _ _ c.loop-j-test.true c.loop-j.invariant.stand).inside)

pub overflow_add-to : goal.overflow_add-to
overflow_add-to c =
    omega (arith, put-room _ _ _ _ _ _ _ _ _ _ _ _ c.loop-j.invariant c.loop-j-test.true _ _ c.next-e.ensures c.converted_len-n.ensures.0, c.loop-j.invariant.out_length, c.requires.1.1.1.0)

pub slice_bounds-put_message-end : goal.slice_bounds-put_message-end
slice_bounds-put_message-end c =
    omega (arith, put-room _ _ _ _ _ _ _ _ _ _ _ _ c.loop-j.invariant c.loop-j-test.true _ _ c.next-e.ensures c.converted_len-n.ensures.0)

pub slice_bounds-put_message-count-in-loop-j : goal.slice_bounds-put_message-count-in-loop-j
slice_bounds-put_message-count-in-loop-j c =
    omega (arith, reached _ _ _ _ c.loop-j-test.true c.loop-j.invariant.stand _ c.next-e.ensures)

pub slice_bounds-put_message-start-in-loop-j : goal.slice_bounds-put_message-start-in-loop-j
slice_bounds-put_message-start-in-loop-j c =
    omega (arith, reached _ _ _ _ c.loop-j-test.true c.loop-j.invariant.stand _ c.next-e.ensures)

pub slice_bounds-put_message-end-in-loop-j : goal.slice_bounds-put_message-end-in-loop-j
slice_bounds-put_message-end-in-loop-j c =
    omega (arith, reached _ _ _ _ c.loop-j-test.true c.loop-j.invariant.stand _ c.next-e.ensures, (here _ _ _ _ c.loop-j-test.true c.loop-j.invariant.stand).inside)

pub overflow_add-i : goal.overflow_add-i
overflow_add-i c =
    omega (arith, c.requires.1.0, c.loop-j-test.true)

pub put_message-requires : goal.put_message-requires
put_message-requires c =
    (ready-here _ _ _ _ c.loop-j-test.true c.loop-j.invariant.stand _ c.next-e.ensures, put-lent _ _ _ _ _ _ _ _ _ _ _ _ c.loop-j.invariant c.loop-j-test.true _ _ c.next-e.ensures c.converted_len-n.ensures.0 _ refl ∙ c.converted_len-n.ensures.0)

pub overflow_cast-lengths : goal.overflow_cast-lengths
overflow_cast-lengths c =
    omega (arith, c.converted_len-n.ensures.1)

pub offset_bounds-lengths-j : goal.offset_bounds-lengths-j
offset_bounds-lengths-j c =
    omega (arith, c.requires.1.0, c.loop-j-test.true)

pub bounds-lengths-j : goal.bounds-lengths-j
bounds-lengths-j c =
    omega (arith, c.loop-j-test.true, c.loop-j.invariant.lengths_length, c.requires.1.1.0)

pub loop-j-preserved : goal.loop-j-preserved
loop-j-preserved c =
    put-again _ _ _ _ _ _ _ _ _ _ _ _ c.loop-j.invariant c.loop-j-test.true _ _ c.next-e.ensures c.converted_len-n.ensures.0 _ _ _ _ refl c.byte.ensures c.put_message.ensures c.put_message.auto.output (omega (arith, c.loop-j-test.true, c.loop-j.invariant.lengths_length, c.requires.1.1.0)) refl

pub shape_of-output : goal.shape_of-output
shape_of-output c = c.loop-j.invariant.out_length

pub shape_of-lengths : goal.shape_of-lengths
shape_of-lengths c = c.loop-j.invariant.lengths_length

pub returns : goal.returns
returns c = put-end _ _ _ _ _ _ _ _ _ _ _ _ c.loop-j.invariant c.loop-j-test.false
