use Rattle.std.proofs.Common.{rules}
use Rattle.block.proofs.SequenceLaws.{taken_is, duplicate-is}
use Rattle.block.proofs.arrive.Goals as goal

pub returns-then-gap-le2147483647 : goal.returns-then-gap-le2147483647
returns-then-gap-le2147483647 c =
    let a = c in
    taken_is _ _ _ _ a.ranges.received.fits a.ranges.expected.fits (search rules) c.wrapping_sub_u32-gap.ensures.value _ c.if-gap-le2147483647.true c.wrapping_add_u32-next.ensures.value

pub returns : goal.returns
returns c =
    let a = c in
    duplicate-is _ _ _ _ a.ranges.received.fits a.ranges.expected.fits (search rules) c.wrapping_sub_u32-gap.ensures.value c.if-gap-le2147483647.false
