use Prim.Native.Nat.{◌-◌, ◌≤◌}
use mathlib.Core.Path.{◌≡◌}
use lib.ListN.{length}
use Rattle.venue.specs.Venue.{venue_first, laid_from}
use Rattle.venue.proofs.is_laid.Given as goal

abbrev pub invariant-loop-i : goal.invariant-loop-i
invariant-loop-i l = (l.i ≤ l.c) × ((l.p ≤ length l.block) × (laid_from l.block l.p (l.c - l.i) ≡ laid_from l.block venue_first l.c))
