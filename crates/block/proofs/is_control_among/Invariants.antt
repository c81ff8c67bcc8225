use Rattle.std.proofs.Common.{◌≡◌, ◌-◌, ◌≤◌}
use Rattle.lists.specs.Lists.{all}
use Rattle.block.specs.Block.{no_control_at}
use Rattle.block.proofs.is_control_among.Given as goal

abbrev pub invariant-loop-i : goal.invariant-loop-i
invariant-loop-i l = (l.i ≤ l.c) × (all (no_control_at l.block) l.i (l.c - l.i) ≡ all (no_control_at l.block) 0 l.c)
