use Prim.Native.Nat.{◌-◌, ◌≤◌}
use Rattle.keysets.specs.Sets.{NoneAbove, key_at, key_count}
use Rattle.keysets.proofs.top.Given as goal

abbrev pub invariant-loop-i : goal.invariant-loop-i
invariant-loop-i l = (l.i ≤ key_count) × NoneAbove (key_at l.page l.at) l.i l.m
