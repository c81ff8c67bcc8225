use Prim.Native.Nat.{◌-◌, ◌≤◌}
use mathlib.Core.Path.{◌≡◌}
use Rattle.lists.specs.Lists.{all}
use Rattle.message.specs.Message.{test_byte}
use Rattle.message.proofs.is_test.Given as goal

abbrev pub invariant-loop-i : goal.invariant-loop-i
invariant-loop-i l = (l.i ≤ 95) × (all (test_byte l.msg) l.i (95 - l.i) ≡ all (test_byte l.msg) 0 95)
