use Rattle.std.proofs.Common.{◌≡◌, ◌-◌, ◌≤◌}
use Rattle.lists.specs.Lists.{all}
use Rattle.block.specs.Block.{spaced_at}
use Rattle.block.proofs.is_spaced.Given as goal

abbrev pub invariant-loop-i : goal.invariant-loop-i
invariant-loop-i l = (l.i ≤ l.c) × (all (spaced_at l.block) l.i (l.c - l.i) ≡ all (spaced_at l.block) 0 l.c)
