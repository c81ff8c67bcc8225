use Prim.Native.Nat.{◌+◌, ◌*◌, ◌-◌, ◌≤◌}
use mathlib.Core.Path.{◌≡◌}
use lib.ListN.{length}
use Rattle.field.specs.Field.{splice}
use Rattle.levels.specs.Levels.{item_length}
use Rattle.venuequote.specs.Quote.{our_items}
use Rattle.venuequote.proofs.put_items.Given as goal

abbrev pub invariant-loop-i : goal.invariant-loop-i
invariant-loop-i l =
    (l.i ≤ l.n) × ((length l.output ≡ length l.initial.output) × (splice l.output (l.to + item_length * l.i) (our_items l.form l.msg l.i (l.n - l.i)) ≡ splice l.initial.output l.to (our_items l.form l.msg 0 l.n)))
