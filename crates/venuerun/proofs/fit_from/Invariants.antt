use Rattle.std.proofs.Common.{◌≡◌, ◌-◌, ◌≤◌, true}
use Rattle.block.specs.Block.{block_longest}
use Rattle.venuerun.specs.code.Walk.{stands, fit_of}
use Rattle.venuerun.proofs.TurnLaws.{fitting_from}
use Rattle.venuerun.proofs.fit_from.Given as goal

abbrev pub invariant-loop-i : goal.invariant-loop-i
invariant-loop-i l =
    (l.i ≤ l.left) × ((stands l.block l.p (l.left - l.i) ≡ true) × ((l.used ≤ block_longest) × (fitting_from l.block l.p (l.left - l.i) l.i l.used ≡ fit_of l.block l.first l.left)))
