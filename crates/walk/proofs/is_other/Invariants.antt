use Prim.Native.Nat.{◌≤◌, ◌-◌, ◌+◌}
use mathlib.Core.Path.{◌≡◌}
use Rattle.field.specs.Ascii.{A, Z}
use Rattle.keysets.specs.Sets.{key_count}
use Rattle.ranking.specs.code.Chosen.{any_other}
use Rattle.walk.specs.code.Walk.{standing_at}
use Rattle.walk.proofs.is_other.Given as goal

abbrev pub invariant-loop-letter : goal.invariant-loop-letter
invariant-loop-letter l =
    (A ≤ l.letter) × (l.letter ≤ Z + 1) × (any_other (standing_at l.page l.side l.finra) l.leader l.letter (Z + 1 - l.letter) ≡ any_other (standing_at l.page l.side l.finra) l.leader A key_count)
