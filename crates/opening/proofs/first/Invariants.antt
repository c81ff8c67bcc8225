use Rattle.std.proofs.Common.{◌≡◌, ◌+◌, ◌-◌, ◌*◌, ◌≤◌}
use Rattle.lists.specs.Lists.{first_from}
use Rattle.opening.specs.Opening.{first_place}
use Rattle.opening.proofs.ReadLaws.{has_symbol}
use Rattle.opening.proofs.first.Given as goal

abbrev pub invariant-loop-k : goal.invariant-loop-k
invariant-loop-k l =
    (l.k ≤ l.count) × (first_from (has_symbol l.book (l.high * 16777216 + (l.middle * 256 + l.low))) l.k (l.count - l.k) ≡ first_place l.book (l.high * 16777216 + (l.middle * 256 + l.low)))
