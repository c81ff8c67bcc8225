use native.Mathlib.Omega.{arith}
use Rattle.feed.proofs.FeedLaws.{length-alone, length_two}
use Rattle.feed.proofs.write.Goals as goal

-- `feed::write` meets its contract.

pub write_one-requires : goal.write_one-requires
write_one-requires c =
    (c.requires.0, (c.requires.1.0, (omega (arith, c.if-k-le-ALONE.true), omega (arith, length-alone c.args.k c.if-k-le-ALONE.true, c.requires.1.1.1))))

pub write_two-requires : goal.write_two-requires
write_two-requires c =
    (c.requires.0, (c.requires.1.0, (omega (arith, c.if-k-le-ALONE.false), (c.requires.1.1.0, omega (arith, length_two c.args.k c.if-k-le-ALONE.false, c.requires.1.1.1)))))
