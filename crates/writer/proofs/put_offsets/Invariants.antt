use Prim.Native.Nat.{◌+◌, ◌≤◌}
use mathlib.Core.Path.{◌≡◌}
use lib.ListN.{length, drop}
use Rattle.field.specs.Field.{splice}
use Rattle.lists.specs.Lists.{sum}
use Rattle.block.specs.Written.{offsets}
use Rattle.block.specs.Block.{offset_at}
use Rattle.writer.proofs.put_offsets.Given as goal

abbrev pub invariant-loop-i : goal.invariant-loop-i
invariant-loop-i l =
    (l.i-end ≡ length l.lengths) × ((l.i ≤ length l.lengths) × ((length l.block ≡ length l.initial.block) × ((l.at + sum (drop l.i l.lengths) ≡ length l.initial.block)
    × (splice l.block (offset_at l.i) (offsets l.at (drop l.i l.lengths)) ≡ splice l.initial.block 10 (offsets (offset_at (length l.lengths)) l.lengths)))))
