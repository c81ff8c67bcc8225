use Prim.Native.Nat.{◌+◌}
use mathlib.Core.Path.{◌≡◌}
use mathlib.Core.Bool.{true}
use lib.Dec.{leb}
use lib.ListN.{length, drop}
use Rattle.lists.specs.Lists.{every, sum}
use Rattle.block.specs.Written.{cut_by, any_control}
use Rattle.block.specs.Block.{message_shortest}
use Rattle.writer.proofs.is_any_control.Given as goal

abbrev pub invariant-loop-n : goal.invariant-loop-n
invariant-loop-n l =
    (l.first + sum (drop l.n-index l.lengths) ≡ length l.messages)
    × ((every (leb message_shortest) (drop l.n-index l.lengths) ≡ true) × (any_control (cut_by (drop l.n-index l.lengths) (drop l.first l.messages)) ≡ any_control (cut_by l.lengths l.messages)))
