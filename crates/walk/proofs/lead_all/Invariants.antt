use Prim.Native.Nat.{◌≤◌, ◌-◌, ◌+◌}
use mathlib.Core.Path.{◌≡◌}
use Rattle.ranking.specs.Held.{no_lead}
use Rattle.ranking.specs.code.Choice.{lead_from}
use Rattle.walk.specs.code.Walk.{standing_at}
use Rattle.field.specs.Ascii.{A}
use Rattle.walk.proofs.lead_all.Given as goal

abbrev pub invariant-loop-letter : goal.invariant-loop-letter
invariant-loop-letter l =
    (A ≤ l.letter) × (l.letter ≤ l.letter-end) × (l.letter-end ≡ l.last + 1) × (lead_from l.side (standing_at l.page l.side l.finra) l.letter (l.letter-end - l.letter) l.lead ≡ lead_from l.side (standing_at l.page l.side l.finra) A (l.last + 1 - A) no_lead)
