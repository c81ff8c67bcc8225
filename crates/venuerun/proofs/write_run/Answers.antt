use Rattle.std.proofs.Common.{sym, refl, ◌∙◌, arith}
use Rattle.block.specs.Sequence.{next_of}
use Rattle.venuerun.proofs.StandLaws.{ready-is}
use Rattle.venuerun.proofs.VenueLaws.{run-longest}
use Rattle.venuerun.proofs.TurnLaws.{running-start, running-part, running-room, running-again, running-end, running-count, running-first, running-len}
use Rattle.venuerun.proofs.write_run.Goals as goal

pub get32-sequence-requires : goal.get32-sequence-requires
get32-sequence-requires c =
    omega (arith, (ready-is _ c.requires.0).sound.long)

pub loop-i-init : goal.loop-i-init
loop-i-init c =
    running-start _ _ _ _ _ c.requires.0 c.requires.1 c.count-c.ensures.0 c.get32-sequence.ensures

pub fit_from-f-requires : goal.fit_from-f-requires
fit_from-f-requires c = c.loop-i.invariant.stand

pub overflow_add-e : goal.overflow_add-e
overflow_add-e c =
    omega (arith, running-room _ _ _ _ _ _ _ _ _ c.loop-i.invariant c.loop-i-test.true _ c.fit_from-f.ensures, c.loop-i.invariant.out_length, c.requires.1, run-longest _ c.requires.0)

pub slice_bounds-write_one-end : goal.slice_bounds-write_one-end
slice_bounds-write_one-end c =
    omega (arith, running-room _ _ _ _ _ _ _ _ _ c.loop-i.invariant c.loop-i-test.true _ c.fit_from-f.ensures)

pub write_one-requires : goal.write_one-requires
write_one-requires c =
    (running-first _ _ _ _ _ _ _ _ _ c.loop-i.invariant c.loop-i-test.true _ c.fit_from-f.ensures, (omega (arith, (running-count _ _ _ _ _ _ _ _ _ c.loop-i.invariant c.loop-i-test.true _ c.fit_from-f.ensures).1, c.count-c.ensures.1), (omega (arith, running-part _ _ _ _ _ _ _ _ _ c.loop-i.invariant c.loop-i-test.true _ c.fit_from-f.ensures _ refl, (running-len _ _ _ _ _ _ _ _ _ c.loop-i.invariant c.loop-i-test.true _ c.fit_from-f.ensures).1), sym (running-len _ _ _ _ _ _ _ _ _ c.loop-i.invariant c.loop-i-test.true _ c.fit_from-f.ensures).0 ∙ sym (running-part _ _ _ _ _ _ _ _ _ c.loop-i.invariant c.loop-i-test.true _ c.fit_from-f.ensures _ refl))))

pub overflow_cast-k : goal.overflow_cast-k
overflow_cast-k c =
    omega (arith, (running-count _ _ _ _ _ _ _ _ _ c.loop-i.invariant c.loop-i-test.true _ c.fit_from-f.ensures).1, c.count-c.ensures.1)

pub overflow_add-i : goal.overflow_add-i
overflow_add-i c =
    omega (arith, (running-count _ _ _ _ _ _ _ _ _ c.loop-i.invariant c.loop-i-test.true _ c.fit_from-f.ensures).1, c.count-c.ensures.1)

pub loop-i-smaller : goal.loop-i-smaller
loop-i-smaller c =
    omega (arith, c.loop-i-test.true, (running-count _ _ _ _ _ _ _ _ _ c.loop-i.invariant c.loop-i-test.true _ c.fit_from-f.ensures).0, (running-count _ _ _ _ _ _ _ _ _ c.loop-i.invariant c.loop-i-test.true _ c.fit_from-f.ensures).1)

pub loop-i-preserved : goal.loop-i-preserved
unfolding next_of
loop-i-preserved c =
    running-again _ _ _ _ _ _ _ _ _ c.loop-i.invariant c.loop-i-test.true _ c.fit_from-f.ensures _ _ _ refl c.write_one.ensures c.write_one.auto.output c.wrapping_add_u32-sequence.ensures.value

pub shape_of-output : goal.shape_of-output
shape_of-output c = c.loop-i.invariant.out_length

pub returns : goal.returns
returns c = running-end _ _ _ _ _ _ _ _ _ c.loop-i.invariant c.loop-i-test.false
