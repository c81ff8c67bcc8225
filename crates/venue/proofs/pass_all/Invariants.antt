use Prim.Native.Nat.{ℕ, ◌-◌, ◌≤◌}
use mathlib.Core.Path.{◌≡◌}
use mathlib.Core.Bool.{Bool, true}
use mathlib.Core.List.{List}
use Rattle.venue.specs.code.Each.{all_by, Decides}
use Rattle.venue.specs.Venue.{laid_from, venue_from, venue_messages}
use Rattle.venue.proofs.pass_all.Given as goal

abbrev pub invariant-loop-i : goal.invariant-loop-i
invariant-loop-i g l =
    (l.i ≤ l.c)
    × ((laid_from l.block l.p (l.c - l.i) ≡ true)
    × ((rule : ℕ → List ℕ → Bool) → Decides (goal.F-post g l.test) rule → all_by rule l.i (venue_from l.block l.p (l.c - l.i)) ≡ all_by rule 0 (venue_messages l.block)))
