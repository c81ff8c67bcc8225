use Prim.Native.Nat.{◌≤◌, ◌+◌, ◌-◌}
use mathlib.Core.Path.{◌≡◌}
use lib.ListN.{length}
use Rattle.field.specs.Ascii.{A, Z}
use Rattle.feed.specs.code.Blocks.{shown_in}
use Rattle.feed.proofs.count.Given as goal

abbrev pub invariant-loop-letter : goal.invariant-loop-letter
invariant-loop-letter l =
    (A ≤ l.letter) × ((l.letter ≤ Z + 1) × ((l.n ≤ l.letter - A) × (l.n + length (shown_in l.page l.letter (Z + 1)) ≡ length (shown_in l.page A (Z + 1)))))
