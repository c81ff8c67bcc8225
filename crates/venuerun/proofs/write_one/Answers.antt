use Rattle.std.proofs.Common.{arith}
use Rattle.venuerun.proofs.TurnLaws.{one-few, one-frame, one-is}
use Rattle.venuerun.proofs.write_one.Goals as goal

pub put_messages-requires : goal.put_messages-requires
put_messages-requires c =
    (c.requires.0, (c.requires.1.0, (omega (arith, one-few _ _ _ _ c.requires.0 c.requires.1.1.1 c.requires.1.1.0), (c.requires.1.1.0, c.requires.1.1.1))))

pub slice_bounds-frame-end : goal.slice_bounds-frame-end
slice_bounds-frame-end c =
    omega (arith, one-few _ _ _ _ c.requires.0 c.requires.1.1.1 c.requires.1.1.0, c.put_messages.auto.lengths)

pub frame-requires : goal.frame-requires
frame-requires c =
    one-frame _ _ _ _ _ _ _ _ 26 c.requires.0 c.requires.1.1.1 (one-few _ _ _ _ c.requires.0 c.requires.1.1.1 c.requires.1.1.0) c.put_messages.ensures.0 c.put_messages.ensures.1 c.requires.1.1.0 (one-few _ _ _ _ c.requires.0 c.requires.1.1.1 c.requires.1.1.0)

pub returns : goal.returns
returns c =
    one-is _ _ _ _ _ _ _ _ 26 c.requires.0 c.requires.1.1.1 (one-few _ _ _ _ c.requires.0 c.requires.1.1.1 c.requires.1.1.0) c.put_messages.ensures.0 c.put_messages.ensures.1 _ _ c.frame.ensures
