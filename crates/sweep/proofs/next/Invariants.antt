use Prim.Native.Nat.{◌≤◌, ◌+◌, ◌-◌}
use mathlib.Core.Path.{◌≡◌}
use Rattle.field.specs.Ascii.{A, Z}
use Rattle.ranking.specs.Held.{no_candidate, or_none}
use Rattle.ranking.specs.code.Choice.{best_from}
use Rattle.page.specs.Layout.{letter_count}
use Rattle.sweep.specs.code.Next.{next_at}
use Rattle.sweep.proofs.next.Given as goal

abbrev pub invariant-loop-letter : goal.invariant-loop-letter
invariant-loop-letter l =
    (A ≤ l.letter) × (l.letter ≤ Z + 1)
    × (best_from l.side (λ k. or_none (next_at l.page l.side l.last k)) l.letter (Z + 1 - l.letter) l.best ≡ best_from l.side (λ k. or_none (next_at l.page l.side l.last k)) A letter_count no_candidate)
