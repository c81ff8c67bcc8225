use Prim.Native.Nat.{◌≤◌, ◌-◌, ◌+◌}
use mathlib.Core.Path.{◌≡◌}
use Rattle.ranking.specs.Held.{no_candidate}
use Rattle.ranking.specs.code.Choice.{live, best_from}
use Rattle.walk.specs.code.Walk.{asked_of, first_by}
use Rattle.field.specs.Ascii.{A}
use Rattle.walk.proofs.odd_all.Given as goal

abbrev pub invariant-loop-letter : goal.invariant-loop-letter
invariant-loop-letter l =
    (A ≤ l.letter) × (l.letter ≤ l.letter-end) × (l.letter-end ≡ l.last + 1) × (best_from l.side (asked_of (first_by l.page l.side (live l.finra))) l.letter (l.letter-end - l.letter) l.best ≡ best_from l.side (asked_of (first_by l.page l.side (live l.finra))) A (l.last + 1 - A) no_candidate)
