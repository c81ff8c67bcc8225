use Rattle.std.proofs.Common.{◌<◌, arith, rules, le-leb}
use borrow.Author.Tests.{lt-leb}
use Rattle.lists.proofs.Searches.{all_start, all-fails, all-again, all_end}
use Rattle.block.specs.Block.{count_in, no_control_at, control_among}
use Rattle.block.proofs.StartLaws.{message-inside, control-here, control-not}
use Rattle.block.proofs.is_control_among.Goals as goal

pub returns-then-c-lt2 : goal.returns-then-c-lt2
unfolding control_among
returns-then-c-lt2 c = rw (← c.requires.0.counted, lt-leb _ _ c.if-c-lt2.true)

pub loop-i-init : goal.loop-i-init
loop-i-init c = (search rules, all_start _ _)

pub get8-requires : goal.get8-requires
get8-requires c =
    let q = c in
    let n : c.loop-i.i < count_in q.args.block.now = rw (← q.requires.0.counted) c.loop-i-test.true in
    omega (arith, message-inside q.args.block.now q.requires.1 c.loop-i.i c.start-at.result n c.start-at.ensures.0)

pub returns-then-get8-eq67 : goal.returns-then-get8-eq67
unfolding control_among
returns-then-get8-eq67 c =
    let q = c in
    let i = c.loop-i in
    let l = c.loop-i-test.true in
    let n : i.i < count_in q.args.block.now = rw (← q.requires.0.counted) l in
    rw (
      ← q.requires.0.counted,
      le-leb _ _ c.if-c-lt2.false,
      ← all-fails (no_control_at q.args.block.now) q.args.c _ i.i l i.invariant.1
          (control-here _ q.requires.1 i.i _ n c.start-at.ensures.0 _ c.get8.ensures c.if-get8-eq67.true),
    )

pub loop-i-preserved : goal.loop-i-preserved
loop-i-preserved c =
    let q = c in
    let i = c.loop-i in
    let l = c.loop-i-test.true in
    let n : i.i < count_in q.args.block.now = rw (← q.requires.0.counted) l in
    (search rules, all-again _ _ _ _ l i.invariant.1 (control-not _ q.requires.1 i.i _ n c.start-at.ensures.0 _ c.get8.ensures c.if-get8-eq67.false))

pub returns : goal.returns
unfolding control_among
returns c =
    rw (← c.requires.0.counted, le-leb _ _ c.if-c-lt2.false, ← all_end (no_control_at c.args.block.now) c.args.c _ _ c.loop-i-test.false c.loop-i.invariant.1)
