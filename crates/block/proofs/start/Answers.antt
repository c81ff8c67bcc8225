use Rattle.std.proofs.Common.{rules, le-ltb, lt-ltb}
use Rattle.block.specs.Block.{start_at}
use Rattle.block.proofs.start.Goals as goal

pub returns-then-i-c : goal.returns-then-i-c
unfolding start_at
returns-then-i-c c = (rw (← c.requires.counted, lt-ltb _ _ c.if-i-c.true) c.get16.ensures, search rules)

pub returns : goal.returns
unfolding start_at
returns c = (rw (← c.requires.counted, le-ltb _ _ c.if-i-c.false), search rules)
