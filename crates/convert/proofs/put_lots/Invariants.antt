use Prim.Native.Nat.{◌-◌, ◌≤◌}
use mathlib.Core.Path.{◌≡◌}
use mathlib.Core.Bool.{true}
use lib.ListN.{length}
use Rattle.field.specs.Field.{splice}
use Rattle.venue.specs.Venue.{venue_from, venue_messages}
use Rattle.venuerun.specs.code.Walk.{stands}
use Rattle.convert.specs.code.Lots.{lots_for}
use Rattle.convert.proofs.put_lots.Given as goal

abbrev pub invariant-loop-i : goal.invariant-loop-i
invariant-loop-i l =
    (l.i ≤ l.c) × ((length l.lots ≡ length l.initial.lots) × ((stands l.block l.p (l.c - l.i) ≡ true) × (splice l.lots l.i (lots_for l.book (venue_from l.block l.p (l.c - l.i))) ≡ splice l.initial.lots 0 (lots_for l.book (venue_messages l.block)))))
